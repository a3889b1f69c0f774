-- Lists of bits, and sums of them: what the algebra needs beyond lib.ListN and lib.Seq.
-- Assumes nothing.
use Rattle.std.proofs.Common.{◌≡◌, ℕ, zero, suc, ◌+◌, ◌-◌, ◌%◌, ◌<◌, T, List, [], ◌∷◌, ◌++◌, length, take, drop, replicate, sym, refl, ap, ◌∙◌, ap₂, mod-lt, arith, lit<, length-append, length-drop, take-append-drop, length-take, take_at, drop_at}
use native.Mathlib.Nat.{suc_inj}
use lib.ListN.{length-replicate}
use Rattle.bits.specs.Bits.{all_bits, flip}
use Rattle.bits.proofs.AllBits.{all_bits-nil, all_bits-cons, all_bits_head, all_bits-tail, all_bits-append, all_bits-take, all_bits-drop}
use Rattle.formats.specs.Polynomial.{sum}
use Rattle.cyclic.specs.Check.{turned}

-- every element of v is 0 or 1
abbrev pub Bits : List ℕ → Type 0
Bits v = T (all_bits v)

-- k zeros
abbrev pub zeros : ℕ → List ℕ
zeros k = replicate k 0

-- there are k of them
pub length-zeros : (k : ℕ) → length (zeros k) ≡ k
length-zeros k = length-replicate k 0

-- what holds of 0 and of 1 holds of a bit
pub by_bit : (P : ℕ → Type 0) → P 0 → P 1 → (b : ℕ) → b < 2 → P b
by_bit P p q zero h = p
by_bit P p q (suc zero) h = q
by_bit P p q (suc (suc b)) h = absurd (omega arith)

-- k times the same bit
pub bits_replicate : (k b : ℕ) → b < 2 → Bits (replicate k b)
bits_replicate zero b h = all_bits-nil
bits_replicate (suc k) b h = all_bits-cons b (replicate k b) h (bits_replicate k b h)

-- zeros are bits
pub bits_zeros : (k : ℕ) → Bits (zeros k)
bits_zeros k = bits_replicate k 0 (lit< tt)

-- turned bits are bits
pub bits_turned : (t : ℕ) (b : List ℕ) → Bits b → Bits (turned t b)
unfolding turned
bits_turned t b h = all_bits-append (drop t b) (take t b) (all_bits-drop t b h) (all_bits-take t b h)

-- and as many
pub length-turned : (t : ℕ) (b : List ℕ) → length (turned t b) ≡ length b
unfolding turned
length-turned t b = length-append (drop t b) (take t b) ∙ omega (arith, length-drop t b, length-take t b)

-- to turn all the way round is to do nothing
pub turned_back_lem : (s t : ℕ) (b : List ℕ) → s + t ≡ length b → turned s (turned t b) ≡ b
unfolding turned
turned_back_lem s t b h =
    let size : length (drop t b) ≡ s = length-drop t b ∙ omega arith in
    ap₂ ◌++◌ (drop_at (drop t b) (take t b) s size) (take_at (drop t b) (take t b) s size) ∙ take-append-drop t b

-- a sum has bits only
pub bits_sum : (u v : List ℕ) → Bits (sum u v)
unfolding sum
bits_sum [] v = all_bits-nil
bits_sum (a ∷ u) [] = all_bits-nil
bits_sum (a ∷ u) (b ∷ v) = all_bits-cons ((a + b) % 2) (sum u v) (mod-lt (a + b) (lit< tt)) (bits_sum u v)

-- a sum has as many coefficients as the two polynomials
pub length-sum : (u v : List ℕ) → length u ≡ length v → length (sum u v) ≡ length u
unfolding sum
length-sum [] v h = refl
length-sum (a ∷ u) [] h = sym h
length-sum (a ∷ u) (b ∷ v) h = ap suc (length-sum u v (suc_inj h))

-- sums associate
pub sum_assoc : (u v w : List ℕ) → sum (sum u v) w ≡ sum u (sum v w)
unfolding sum
sum_assoc [] v w = refl
sum_assoc (a ∷ u) [] w = refl
sum_assoc (a ∷ u) (b ∷ v) [] = refl
sum_assoc (a ∷ u) (b ∷ v) (c ∷ w) =
    let e : ((a + b) % 2 + c) % 2 ≡ (a + (b + c) % 2) % 2 = omega arith in
    ap₂ {C = List ℕ} (λ x r. x ∷ r) e (sum_assoc u v w)

-- and commute
pub sum_comm : (u v : List ℕ) → sum u v ≡ sum v u
unfolding sum
sum_comm [] [] = refl
sum_comm [] (b ∷ v) = refl
sum_comm (a ∷ u) [] = refl
sum_comm (a ∷ u) (b ∷ v) =
    let e : (a + b) % 2 ≡ (b + a) % 2 = omega arith in
    ap₂ {C = List ℕ} (λ x r. x ∷ r) e (sum_comm u v)

-- zeros add nothing
pub sum_zeros : (v : List ℕ) → Bits v → sum (zeros (length v)) v ≡ v
unfolding sum
sum_zeros [] h = refl
sum_zeros (b ∷ v) h =
    let l = all_bits_head b v h in
    let e : (0 + b) % 2 ≡ b = omega arith in
    ap₂ {C = List ℕ} (λ x r. x ∷ r) e (sum_zeros v (all_bits-tail b v h))

-- a polynomial plus itself is zero
pub sum_self : (v : List ℕ) → sum v v ≡ zeros (length v)
unfolding sum
sum_self [] = refl
sum_self (b ∷ v) =
    let e : (b + b) % 2 ≡ 0 = omega arith in
    ap₂ {C = List ℕ} (λ x r. x ∷ r) e (sum_self v)

-- what is added twice cancels
pub sum_twice : (u v : List ℕ) → Bits v → length u ≡ length v → sum u (sum u v) ≡ v
sum_twice u v h l = sym (sum_assoc u u v) ∙ ap (λ (w : List ℕ). sum w v) (sum_self u ∙ ap zeros l) ∙ sum_zeros v h

-- the sum of two lists, part by part
pub sum-append : (a b u v : List ℕ) → length a ≡ length b → sum (a ++ u) (b ++ v) ≡ sum a b ++ sum u v
unfolding sum
sum-append [] [] u v h = refl
sum-append [] (y ∷ b) u v h = absurd (omega arith)
sum-append (x ∷ a) [] u v h = absurd (omega arith)
sum-append (x ∷ a) (y ∷ b) u v h = ap {B = List ℕ} (λ r. (x + y) % 2 ∷ r) (sum-append a b u v (suc_inj h))

-- flipped bits are the bits plus ones
pub flip-sum : (v : List ℕ) → Bits v → flip v ≡ sum v (replicate (length v) 1)
unfolding sum flip
flip-sum [] h = refl
flip-sum (b ∷ v) h =
    let l = all_bits_head b v h in
    let e : 1 - b ≡ (b + 1) % 2 = omega arith in
    ap₂ {C = List ℕ} (λ x r. x ∷ r) e (flip-sum v (all_bits-tail b v h))

-- a list that is not empty, as its front and its last element
pub last_split : (v : List ℕ) (k : ℕ) → length v ≡ suc k → (u : List ℕ) × (b : ℕ) × (v ≡ u ++ (b ∷ [])) × (length u ≡ k)
last_split [] k h = absurd (omega arith)
last_split (a ∷ []) k h = ([], a, refl, suc_inj h)
last_split (a ∷ (c ∷ v)) zero h = absurd (omega arith)
last_split (a ∷ (c ∷ v)) (suc k) h =
    let r = last_split (c ∷ v) k (suc_inj h) in
    (a ∷ r.0, r.1, ap {B = List ℕ} (λ l. a ∷ l) r.2, ap suc r.3)
