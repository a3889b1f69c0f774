-- The first of conditions 2, 3 and 4 that a telegram fails, by its refusal (document 01, "When the bench says no").
-- Assumes nothing.
use Rattle.std.specs.Prelude.{ℕ, not, List, [], ◌∷◌, Result, Ok, Err}
use Rattle.formats.specs.declared.format.Format.{Format}
use Rattle.refusals.specs.declared.Refusal.{Refusal}
use Rattle.refusals.specs.declared.Refusal.TheVariants.{OffStep, Repeating, Thinned}
use Rattle.refusals.specs.Table.{Row, ◌when◌, verdict, answer_by}
use Rattle.conditions.specs.Conditions.{off_step_within, not_repeating, thinned_within}

-- when refusals 10, 11 and 12 apply: condition 2, 3 or 4 fails
unfoldable pub condition_table : Format → List ℕ → List (Row Refusal)
condition_table format b =
    OffStep when not (off_step_within format b)
    ∷ Repeating when not (not_repeating format b)
    ∷ Thinned when not (thinned_within format b)
    ∷ []

unfoldable pub first_failing : Format → List ℕ → Result (Unit {0}) Refusal
first_failing format b = answer_by Err (Ok (tt {0})) (verdict (condition_table format b))
