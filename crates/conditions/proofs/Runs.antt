-- Runs 2 and 3, 6 and 7, 10 and 11, 30 and 31 (document 01, "Bench sheet"; document 02, No. 5), counted round made rings, each against its
-- limit: within the ring and across its seam, and rings all valid. Assumes nothing.
use mathlib.Core.Path.{◌≡◌, refl}
use mathlib.Core.Bool.{Bool, true, false}
use mathlib.Core.List.{List, [], ◌∷◌, ◌++◌}
use Prim.Native.Nat.{ℕ, zero, suc, ◌-◌}
use lib.Dec.{leb}
use lib.ListN.{replicate}
use Rattle.formats.specs.declared.format.Format.TheVariants.{Long, Short}
use Rattle.conditions.specs.Conditions.{limit_at}
use Rattle.conditions.specs.Runs.{longest_after, longest, longest_round}

-- a ring with n valid words in a run, of which k stand before its seam and the others after it; and one valid word apart from them
abbrev ring : ℕ → ℕ → List Bool
ring n k = replicate (n - k) true ++ false ∷ true ∷ false ∷ replicate k true

-- the run counted, and whether the limit allows it
abbrev tried : ℕ → ℕ → ℕ × Bool
tried run limit = (run, leb run limit)

-- a run of n against a limit, with 0 to k of its words before the seam
pub below : ℕ → ℕ → ℕ → List (ℕ × Bool)
below n limit zero = tried (longest_round (ring n zero)) limit ∷ []
below n limit (suc k) = tried (longest_round (ring n (suc k))) limit ∷ below n limit k

-- with each number of its words there
abbrev each_way : ℕ → ℕ → List (ℕ × Bool)
each_way n limit = below n limit n

abbrev answers : List (ℕ × Bool)
answers =
    each_way 2 (limit_at Long 1) ++ each_way 3 (limit_at Long 1) ++
    each_way 2 (limit_at Long 10) ++ each_way 3 (limit_at Long 10) ++
    each_way 2 (limit_at Short 1) ++ each_way 3 (limit_at Short 1) ++
    each_way 2 (limit_at Short 10) ++ each_way 3 (limit_at Short 10) ++
    each_way 6 (limit_at Short 2) ++ each_way 7 (limit_at Short 2) ++
    each_way 6 (limit_at Short 9) ++ each_way 7 (limit_at Short 9) ++
    each_way 10 (limit_at Long 2) ++ each_way 11 (limit_at Long 2) ++
    each_way 10 (limit_at Long 9) ++ each_way 11 (limit_at Long 9) ++
    each_way 30 30 ++ each_way 31 30

abbrev expected : List (ℕ × Bool)
expected =
    replicate 3 (2, true) ++ replicate 4 (3, false) ++
    replicate 3 (2, true) ++ replicate 4 (3, false) ++
    replicate 3 (2, true) ++ replicate 4 (3, false) ++
    replicate 3 (2, true) ++ replicate 4 (3, false) ++
    replicate 7 (6, true) ++ replicate 8 (7, false) ++
    replicate 7 (6, true) ++ replicate 8 (7, false) ++
    replicate 11 (10, true) ++ replicate 12 (11, false) ++
    replicate 11 (10, true) ++ replicate 12 (11, false) ++
    replicate 31 (30, true) ++ replicate 32 (31, false)

pub runs_counted : answers ≡ expected
unfolding below longest_after limit_at
runs_counted = refl

-- rings all valid fail; and on a strip a run across the end is not seen
pub others_counted : tried (longest_round (replicate 93 true)) (limit_at Long 2) ∷ tried (longest_round (replicate 31 true)) (limit_at Short 2)
    ∷ tried (longest_round (replicate 93 true)) 30 ∷ tried (longest_round (replicate 31 true)) 30 ∷ tried (longest (ring 3 1)) (limit_at Long 1) ∷ []
    ≡ (186, false) ∷ (62, false) ∷ (186, false) ∷ (62, false) ∷ (2, true) ∷ []
unfolding longest_after limit_at
others_counted = refl
