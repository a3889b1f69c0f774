-- Two lists compared place by place (document 01, condition 3 and "Demand 3's windows").
-- Assumes nothing.
use Rattle.std.specs.Prelude.{ℕ, suc, Bool, true, false, List, [], ◌∷◌, eqb}

-- k, and one more where the test of equality fails
abbrev pub count_differing : Bool → ℕ → ℕ
count_differing true k = k
count_differing false k = suc k

-- in how many places they differ, as far as the shorter one goes
unfoldable pub differences : List ℕ → List ℕ → ℕ
differences [] v = 0
differences (a ∷ u) [] = 0
differences (a ∷ u) (c ∷ v) = count_differing (eqb a c) (differences u v)
