-- Tests as values: a test that holds is true, one that fails is false, and two that follow from each other are equal; different answers clash.
-- Assumes nothing.
use mathlib.Core.Path.{◌≡◌, refl, sym, subst}
use mathlib.Core.Bool.{Bool, true, false}
use Prim.Native.Nat.{ℕ}
use native.Mathlib.Omega.{arith}
use lib.Dec.{T}

pub is_true : (t : Bool) → T t → t ≡ true
is_true true h = refl
is_true false h = absurd h

pub is_false : (t : Bool) → (T t → ⊥) → t ≡ false
is_false true h = absurd (h tt)
is_false false h = refl

pub holds : (t : Bool) → t ≡ true → T t
holds t e = subst T (sym e) tt

pub fails : (t : Bool) → t ≡ false → T t → ⊥
fails t e h = subst T e h

-- two tests of which each follows from the other
pub tests_agree : (s t : Bool) → (T s → T t) → (T t → T s) → s ≡ t
tests_agree true t p q = sym (is_true t (p tt))
tests_agree false t p q = sym (is_false t q)

-- where two different answers are equal, so are 0 and 1, by `cc`: that cannot be
pub clash : {A : Type 0} → ◌≡◌ {A = ℕ} 0 1 → A
clash z = absurd (omega arith)
