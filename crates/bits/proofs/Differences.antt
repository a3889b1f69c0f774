-- In how many places two lists differ: as many either way round, at most as many as by way of a third list,
-- the sum over the parts, and as many of the flips of bits. Assumes nothing.
use mathlib.Core.Bool.{Bool, true, false}
use mathlib.Core.List.{List, [], ◌∷◌, ◌++◌}
use mathlib.Core.Path.{◌≡◌, refl, sym, ap, ap₂, subst⁻¹, ◌∙◌}
use Prim.Native.Nat.{ℕ, zero, suc, ◌+◌, ◌-◌, ◌≤◌, ◌<◌}
use native.Mathlib.Nat.{zero-add}
use native.Mathlib.Omega.{arith}
use lib.Dec.{T, eqb, eqb→eq, eqb-zero-suc, eqb-suc-zero, eqb-suc-suc}
use lib.ListN.{length, take, drop}
use Rattle.bits.specs.Bits.{all_bits, flip}
use Rattle.bits.specs.Differences.{count_differing, differences}
use Rattle.bits.proofs.AllBits.{all_bits_head, all_bits-tail}

count_same : (t : Bool) (k : ℕ) → T t → count_differing t k ≡ k
count_same true k h = refl
count_same false k h = absurd h

count_add : (t : Bool) (k l : ℕ) → count_differing t (k + l) ≡ count_differing t k + l
count_add true k l = refl
count_add false k l = omega arith

count_most : (t : Bool) (k : ℕ) → count_differing t k ≤ suc k
count_most true k = omega arith
count_most false k = omega arith

-- one place more of three lists, where equality passes by way of the second
count_triangle : (p q r : Bool) (k l m : ℕ) → (T p → T q → T r) → k ≤ l + m → count_differing r k ≤ count_differing p l + count_differing q m
count_triangle true true r k l m h le = rw (count_same r k (h tt tt)) le
count_triangle true false r k l m h le = omega (arith, count_most r k)
count_triangle false true r k l m h le = omega (arith, count_most r k)
count_triangle false false r k l m h le = omega (arith, count_most r k)

eqb_symmetric : (a c : ℕ) → eqb a c ≡ eqb c a
eqb_symmetric zero zero = refl
eqb_symmetric zero (suc c) = eqb-zero-suc c ∙ sym (eqb-suc-zero c)
eqb_symmetric (suc a) zero = eqb-suc-zero a ∙ sym (eqb-zero-suc a)
eqb_symmetric (suc a) (suc c) = eqb-suc-suc a c ∙ eqb_symmetric a c ∙ sym (eqb-suc-suc c a)

eqb_transitive : (a c e : ℕ) → T (eqb a c) → T (eqb c e) → T (eqb a e)
eqb_transitive a c e h k = subst⁻¹ (λ (x : ℕ). T (eqb x e)) (eqb→eq a c h) k

eqb-flip : (a c : ℕ) → a < 2 → c < 2 → eqb (1 - a) (1 - c) ≡ eqb a c
eqb-flip zero zero h k = refl
eqb-flip zero (suc zero) h k = refl
eqb-flip zero (suc (suc c)) h k = absurd (omega arith)
eqb-flip (suc zero) zero h k = refl
eqb-flip (suc zero) (suc zero) h k = refl
eqb-flip (suc zero) (suc (suc c)) h k = absurd (omega arith)
eqb-flip (suc (suc a)) c h k = absurd (omega arith)

pub differences-nil : (u : List ℕ) → differences u [] ≡ 0
unfolding differences
differences-nil [] = refl
differences-nil (a ∷ u) = refl

pub differences_symmetric : (u v : List ℕ) → differences u v ≡ differences v u
unfolding differences
differences_symmetric [] v = sym (differences-nil v)
differences_symmetric (a ∷ u) [] = refl
differences_symmetric (a ∷ u) (c ∷ v) = ap₂ count_differing (eqb_symmetric a c) (differences_symmetric u v)

pub differences_triangle : (u v w : List ℕ) → length u ≡ length v → length v ≡ length w → differences u w ≤ differences u v + differences v w
unfolding differences
differences_triangle [] v w e f = omega arith
differences_triangle (a ∷ u) [] w e f = absurd (omega arith)
differences_triangle (a ∷ u) (c ∷ v) [] e f = omega arith
differences_triangle (a ∷ u) (c ∷ v) (d ∷ w) e f =
    count_triangle (eqb a c) (eqb c d) (eqb a d) (differences u w) (differences u v) (differences v w) (eqb_transitive a c d)
    (differences_triangle u v w (omega arith) (omega arith))

pub differences-append : (u u' v v' : List ℕ) → length u ≡ length u' → differences (u ++ v) (u' ++ v') ≡ differences u u' + differences v v'
unfolding differences
differences-append [] [] v v' e = sym (zero-add (differences v v'))
differences-append [] (c ∷ u') v v' e = absurd (omega arith)
differences-append (a ∷ u) [] v v' e = absurd (omega arith)
differences-append (a ∷ u) (c ∷ u') v v' e =
    ap (count_differing (eqb a c)) (differences-append u u' v v' (omega arith)) ∙ count_add (eqb a c) (differences u u') (differences v v')

-- both lists cut at one place
pub differences-cut : (i : ℕ) (u v : List ℕ) → differences u v ≡ differences (take i u) (take i v) + differences (drop i u) (drop i v)
unfolding differences
differences-cut zero u v = sym (zero-add (differences u v))
differences-cut (suc i) [] v = omega arith
differences-cut (suc i) (a ∷ u) [] = omega (arith, differences-nil (drop i u))
differences-cut (suc i) (a ∷ u) (c ∷ v) =
    ap (count_differing (eqb a c)) (differences-cut i u v)
    ∙ count_add (eqb a c) (differences (take i u) (take i v)) (differences (drop i u) (drop i v))

pub differences-drop : (i : ℕ) (u v : List ℕ) → differences (drop i u) (drop i v) ≤ differences u v
differences-drop i u v = omega (arith, differences-cut i u v)

pub differences-flip : (u v : List ℕ) → T (all_bits u) → T (all_bits v) → differences (flip u) (flip v) ≡ differences u v
unfolding differences flip
differences-flip [] v h k = refl
differences-flip (a ∷ u) [] h k = refl
differences-flip (a ∷ u) (c ∷ v) h k =
    ap₂ count_differing (eqb-flip a c (all_bits_head a u h) (all_bits_head c v k))
    (differences-flip u v (all_bits-tail a u h) (all_bits-tail c v k))
