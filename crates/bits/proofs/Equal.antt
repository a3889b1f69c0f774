-- The test `same` of two lists: it holds of equal lists and of no others. Assumes nothing.
use Prim.Native.Nat.{ℕ}
use mathlib.Core.Path.{◌≡◌, refl, ap₂, subst}
use mathlib.Core.Bool.{true, false}
use mathlib.Core.List.{List, [], ◌∷◌}
use lib.Dec.{T, eqb, eqb→eq, eqb_refl}
use Rattle.bits.specs.Bits.{same}
use Rattle.bits.proofs.And.{and_left, and_right, and_of}
use Rattle.bits.proofs.Tests.{is_true, is_false, holds}

-- two lists that pass the test `same` are equal
pub same_equal : (u v : List ℕ) → T (same u v) → u ≡ v
unfolding same
same_equal [] [] h = refl
same_equal [] (b ∷ v) h = absurd h
same_equal (a ∷ u) [] h = absurd h
same_equal (a ∷ u) (b ∷ v) h =
    ap₂ {C = List ℕ} (λ x r. x ∷ r) (eqb→eq a b (and_left (eqb a b) (same u v) h)) (same_equal u v (and_right (eqb a b) (same u v) h))

-- and a list passes it with itself
pub same_refl : (u : List ℕ) → T (same u u)
unfolding same
same_refl [] = tt
same_refl (a ∷ u) = and_of (eqb a a) (same u u) (eqb_refl a) (same_refl u)

pub same_of : (u v : List ℕ) → u ≡ v → T (same u v)
same_of u v e = subst (λ (x : List ℕ). T (same u x)) e (same_refl u)

-- the test's value from the lists
pub equal_same : (u v : List ℕ) → u ≡ v → same u v ≡ true
equal_same u v e = is_true (same u v) (same_of u v e)

pub other_same : (u v : List ℕ) → (u ≡ v → ⊥) → same u v ≡ false
other_same u v d = is_false (same u v) (λ h. d (same_equal u v h))

-- and the other way round
pub same_true : (u v : List ℕ) → same u v ≡ true → u ≡ v
same_true u v e = same_equal u v (holds (same u v) e)
