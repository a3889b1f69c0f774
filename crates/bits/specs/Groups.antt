-- A list gone through in groups of as many elements.
-- Assumes nothing.
use Rattle.std.specs.Prelude.{ℕ, zero, suc, Bool, true, ◌&&◌, List, [], ◌++◌, take, drop}

-- what f tells of each of the first k groups of w elements, joined by op; e where there is no group
unfoldable pub over_groups : {A : Type 0} → (A → A → A) → A → (List ℕ → A) → ℕ → ℕ → List ℕ → A
over_groups op e f w zero s = e
over_groups op e f w (suc k) s = op (f (take w s)) (over_groups op e f w k (drop w s))

-- each of the first k groups of w elements becomes what f makes of it
abbrev pub each_group : (List ℕ → List ℕ) → ℕ → ℕ → List ℕ → List ℕ
each_group f = over_groups ◌++◌ [] f

-- each of the first k groups of w elements passes the test
abbrev pub every_group : (List ℕ → Bool) → ℕ → ℕ → List ℕ → Bool
every_group test = over_groups ◌&&◌ true test
