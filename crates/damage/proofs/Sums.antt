-- Sums of lists of bits: their parts, their ones, and lists whose sum is 0. Assumes nothing.
use Prim.Native.Nat.{ℕ, zero, suc, ◌+◌, ◌%◌, ◌<◌}
use mathlib.Core.Bool.{Bool}
use mathlib.Core.Path.{◌≡◌, refl, sym, ap, ap₂, ◌∙◌}
use mathlib.Core.List.{List, [], ◌∷◌, ◌++◌}
use native.Mathlib.Nat.{suc_inj}
use native.Mathlib.Omega.{arith}
use borrow.Author.Tests.{eq-eqb}
use lib.Dec.{eqb}
use lib.ListN.{length, get_or, take, drop}
use Rattle.bits.specs.Differences.{count_differing, differences}
use Rattle.bits.proofs.AllBits.{all_bits_head, all_bits-tail}
use Rattle.formats.specs.Polynomial.{sum}
use Rattle.cyclic.proofs.Lists.{Bits, zeros, by_bit, bits_sum, sum_assoc, sum_zeros, sum_self, sum-append}
use Rattle.cyclic.proofs.Registers.{zeros_right}

-- the first i places of a sum
pub sum-take : (i : ℕ) (u v : List ℕ) → take i (sum u v) ≡ sum (take i u) (take i v)
unfolding sum
sum-take zero u v = refl
sum-take (suc i) [] v = refl
sum-take (suc i) (a ∷ u) [] = refl
sum-take (suc i) (a ∷ u) (b ∷ v) = ap {B = List ℕ} (λ l. (a + b) % 2 ∷ l) (sum-take i u v)

-- those from i on
pub sum_drop : (i : ℕ) (u v : List ℕ) → length u ≡ length v → drop i (sum u v) ≡ sum (drop i u) (drop i v)
unfolding sum
sum_drop zero u v l = refl
sum_drop (suc i) [] v l = refl
sum_drop (suc i) (a ∷ u) [] l = absurd (omega arith)
sum_drop (suc i) (a ∷ u) (b ∷ v) l = sum_drop i u v (suc_inj l)

-- the place j
pub get_or-sum : (u v : List ℕ) (j : ℕ) → length u ≡ length v → j < length u → get_or (sum u v) j 0 ≡ (get_or u j 0 + get_or v j 0) % 2
unfolding sum
get_or-sum [] v j l h = absurd (omega arith)
get_or-sum (a ∷ u) [] j l h = absurd (omega arith)
get_or-sum (a ∷ u) (b ∷ v) zero l h = refl
get_or-sum (a ∷ u) (b ∷ v) (suc j) l h = get_or-sum u v j (suc_inj l) (omega arith)

-- two lists of bits whose sum is 0 are equal
pub sum_nothing : (x y : List ℕ) → Bits x → Bits y → length x ≡ length y → sum x y ≡ zeros (length x) → x ≡ y
sum_nothing x y hx hy l e =
    let k = length x in
    sym (zeros_right x k hx refl) ∙ ap (sum x) (sym e) ∙ sym (sum_assoc x x y) ∙ ap (λ (u : List ℕ). sum u y) (sum_self x)
    ∙ ap (λ (j : ℕ). sum (zeros j) y) l ∙ sum_zeros y hy

-- the sum of two lists that differ in a middle part only
pub sum_middle : (p x y q : List ℕ) → length x ≡ length y → sum (p ++ (x ++ q)) (p ++ (y ++ q)) ≡ zeros (length p) ++ (sum x y ++ zeros (length q))
sum_middle p x y q l =
    sum-append p p (x ++ q) (y ++ q) refl
    ∙ ap₂ ◌++◌ (sum_self p) (sum-append x y q q l ∙ ap (λ (u : List ℕ). sum x y ++ u) (sum_self q))

-- ---- how many ones

-- how many coefficients are odd
unfoldable pub ones : List ℕ → ℕ
ones [] = 0
ones (b ∷ v) = b % 2 + ones v

-- bits without a one are zeros
pub ones_none : (v : List ℕ) → Bits v → ones v ≡ 0 → v ≡ zeros (length v)
unfolding ones
ones_none [] h e = refl
ones_none (b ∷ v) h e =
    let small = all_bits_head b v h in
    let first : b ≡ 0 = omega arith in
    ap₂ {C = List ℕ} (λ x r. x ∷ r) first (ones_none v (all_bits-tail b v h) (omega arith))

-- one place of two lists of bits
one_place : (k a b : ℕ) → a < 2 → b < 2 → (a + b) % 2 % 2 + k ≡ count_differing (eqb a b) k
one_place k a b p q =
    by_bit (λ (a : ℕ). (a + b) % 2 % 2 + k ≡ count_differing (eqb a b) k)
    (by_bit (λ (b : ℕ). (0 + b) % 2 % 2 + k ≡ count_differing (eqb 0 b) k) (omega arith) (omega arith) b q)
    (by_bit (λ (b : ℕ). (1 + b) % 2 % 2 + k ≡ count_differing (eqb 1 b) k) (omega arith) (omega arith) b q) a p

-- the ones of a sum are the places in which the two differ
pub ones-sum : (u v : List ℕ) → Bits u → Bits v → ones (sum u v) ≡ differences u v
unfolding ones sum differences
ones-sum [] v hu hv = refl
ones-sum (a ∷ u) [] hu hv = refl
ones-sum (a ∷ u) (b ∷ v) hu hv =
    ap (λ (k : ℕ). (a + b) % 2 % 2 + k) (ones-sum u v (all_bits-tail a u hu) (all_bits-tail b v hv))
    ∙ one_place (differences u v) a b (all_bits_head a u hu) (all_bits_head b v hv)

-- so what is added to bits changes as many places as it has ones
pub differences-added : (w e : List ℕ) → Bits w → Bits e → length w ≡ length e → differences w (sum w e) ≡ ones e
differences-added w e hw he l =
    sym (ones-sum w (sum w e) hw (bits_sum w e))
    ∙ ap ones (sym (sum_assoc w w e) ∙ ap (λ (u : List ℕ). sum u e) (sum_self w ∙ ap zeros l) ∙ sum_zeros e he)

-- a list differs from itself in no place
pub differences_self : (u : List ℕ) → differences u u ≡ 0
unfolding differences
differences_self [] = refl
differences_self (a ∷ u) = ap (λ (t : Bool). count_differing t (differences u u)) (eq-eqb a a refl) ∙ differences_self u
