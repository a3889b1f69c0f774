-- The search through a row of numbers for the first that passes a test.
-- Assumes nothing.
use Rattle.std.specs.Prelude.{ℕ, zero, suc, Bool, true, false, cond}

pub data First : Type 0 where
  found : ℕ → First
  none : First

-- the first of k numbers from i on that passes the test
unfoldable pub first_of : (ℕ → Bool) → ℕ → ℕ → First
first_of test i zero = none
first_of test i (suc k) = cond (test i) (found i) (first_of test (suc i) k)

-- is one found, and which; 0 where none is
abbrev pub is_found : First → Bool
is_found (found i) = true
is_found none = false

abbrev pub which_found : First → ℕ
which_found (found i) = i
which_found none = 0
