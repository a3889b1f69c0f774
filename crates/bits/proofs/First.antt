-- The first number that passes a test: the steps of a search, and what its answer says. Assumes nothing.
use mathlib.Core.Path.{◌≡◌, refl, sym, ap, ◌∙◌}
use mathlib.Core.Bool.{Bool, true, false, true≢false, cond}
use mathlib.Core.Logic.{⊎_elim}
use Prim.Native.Nat.{ℕ, zero, suc, ◌+◌, ◌≤◌, ◌<◌}
use native.Mathlib.Nat.{eq-or-lt_of_le, le_antisymm, le_of_suc-le-suc, lt_of_not-le}
use native.Mathlib.Omega.{arith}
use Rattle.bits.specs.Search.{First, found, none, first_of}

-- no number to try
pub first-none : (test : ℕ → Bool) (i : ℕ) → first_of test i 0 ≡ none
unfolding first_of
first-none test i = refl

-- the next number passes, or not
first_next : (test : ℕ → Bool) (i k : ℕ) (passed : Bool) → test i ≡ passed → first_of test i (suc k) ≡ cond passed (found i) (first_of test (suc i) k)
unfolding first_of
first_next test i k passed e = ap (λ (b : Bool). cond b (found i) (first_of test (suc i) k)) e

pub first_here : (test : ℕ → Bool) (i k : ℕ) → test i ≡ true → first_of test i (suc k) ≡ found i
first_here test i k e = first_next test i k true e

pub first_later : (test : ℕ → Bool) (i k : ℕ) → test i ≡ false → first_of test i (suc k) ≡ first_of test (suc i) k
first_later test i k e = first_next test i k false e

-- p is the first of k numbers from i on that passes
pub record IsFirst (test : ℕ → Bool) (i k p : ℕ) : Type 0 where
  pub from : i ≤ p
  pub below : p < i + k
  pub passed : test p ≡ true
  pub earlier : (j : ℕ) → i ≤ j → j < p → test j ≡ false

-- none of k numbers from i on passes
abbrev pub NonePasses : (ℕ → Bool) → ℕ → ℕ → Type 0
NonePasses test i k = (j : ℕ) → i ≤ j → j < i + k → test j ≡ false

-- what an answer of the search says
abbrev pub Says : (ℕ → Bool) → ℕ → ℕ → First → Type 0
Says test i k (found p) = IsFirst test i k p
Says test i k none = NonePasses test i k

-- what holds of i and of all after it holds from i on
from_next : (P : ℕ → Type 0) (i : ℕ) → P i → ((j : ℕ) → suc i ≤ j → P j) → (j : ℕ) → i ≤ j → P j
from_next P i here later j h = ⊎_elim (λ (e : i ≡ j). rw (← e) here) (λ (l : i < j). later j l) (eq-or-lt_of_le h)

-- a number that does not pass stands in front
in_front : (test : ℕ → Bool) (i k : ℕ) (a : First) → test i ≡ false → Says test (suc i) k a → Says test i (suc k) a
in_front test i k (found p) e s =
    record {
      from = omega (arith, s.from);
      below = omega (arith, s.below);
      passed = s.passed;
      earlier = from_next (λ (j : ℕ). j < p → test j ≡ false) i (λ l. e) s.earlier;
    }
in_front test i k none e s =
    from_next (λ (j : ℕ). j < i + suc k → test j ≡ false) i (λ l. e) (λ j h l. s j h (omega arith))

-- the search's answer says so
pub first_says : (test : ℕ → Bool) (i k : ℕ) → Says test i k (first_of test i k)
unfolding first_of
first_says test i zero = λ j h l. absurd (omega arith)
first_says test i (suc k) = by_test (test i) refl (first_says test (suc i) k)
  where
    by_test : (passed : Bool) → test i ≡ passed → Says test (suc i) k (first_of test (suc i) k)
        → Says test i (suc k) (cond passed (found i) (first_of test (suc i) k))
    by_test true e s = record { from = omega arith; below = omega arith; passed = e; earlier = λ j h l. absurd (omega arith) }
    by_test false e s = in_front test i k (first_of test (suc i) k) e s

-- the answer found, said of the numbers
pub first_found : (test : ℕ → Bool) (i k p : ℕ) → first_of test i k ≡ found p → IsFirst test i k p
first_found test i k p e = rw e at (first_says test i k)

pub first_missing : (test : ℕ → Bool) (i k : ℕ) → first_of test i k ≡ none → NonePasses test i k
first_missing test i k e = rw e at (first_says test i k)

-- a test does not both pass and fail
pub not_both : (b : Bool) → b ≡ true → b ≡ false → ⊥
not_both b p q = true≢false (sym p ∙ q)

-- two numbers that are each the first are one
one-first : (test : ℕ → Bool) (i k p q : ℕ) → IsFirst test i k p → IsFirst test i k q → p ≡ q
one-first test i k p q f g = le_antisymm (no_later p q f g) (no_later q p g f)
  where
    no_later : (p q : ℕ) → IsFirst test i k p → IsFirst test i k q → p ≤ q
    no_later p q f g = le_of_suc-le-suc (lt_of_not-le λ (l : q < p). not_both (test q) g.passed (f.earlier q g.from l))

-- the first that passes is the answer
pub found_first : (test : ℕ → Bool) (i k p : ℕ) → IsFirst test i k p → first_of test i k ≡ found p
found_first test i k p f = agree (first_of test i k) (first_says test i k)
  where
    agree : (a : First) → Says test i k a → a ≡ found p
    agree (found q) s = ap found (one-first test i k q p s f)
    agree none s = absurd (not_both (test p) f.passed (s p f.from f.below))

-- where none passes, none is the answer
pub missing_first : (test : ℕ → Bool) (i k : ℕ) → NonePasses test i k → first_of test i k ≡ none
missing_first test i k f = agree (first_of test i k) (first_says test i k)
  where
    agree : (a : First) → Says test i k a → a ≡ none
    agree (found q) s = absurd (not_both (test q) s.passed (f q s.from s.below))
    agree none s = refl
