-- The first proper pair from a given one on, in counting order (document 02, No. 7 and No. 9), and for one B the first esb.
-- Assumes nothing.
use Rattle.std.specs.Prelude.{ℕ, ◌-◌, Bool, ◌&&◌, List, ◌++◌, Option, Some, None}
use Rattle.bits.specs.Search.{First, found, none, first_of}
use Rattle.formats.specs.declared.format.Format.{Format}
use Rattle.formats.specs.Numbers.{numbers_of}
use Rattle.refusals.specs.Refused.{pair_count}
use Rattle.conditions.specs.Conditions.{off_step_within, not_repeating, thinned_within}
use Rattle.encoder.specs.Encoding.{passes}
use Rattle.encoder.specs.Searched.{made_proper}
use Rattle.quick_encoder.specs.Tail.{tail_of}

-- at place p or after it
unfoldable pub pair_from : Format → List ℕ → ℕ → First
pair_from format u p = first_of (passes format u) p (pair_count - p)

-- ---- for the contracts of private functions

-- conditions 2, 3 and 4
abbrev pub meets_conditions : Format → List ℕ → Bool
meets_conditions format t = off_step_within format t && (not_repeating format t && thinned_within format t)

-- the telegram of the shaped data d, B and esb passes the tests that are left of one that was made
unfoldable pub completes : Format → List ℕ → ℕ → ℕ → Bool
completes format d B esb = made_proper format (d ++ tail_of (numbers_of format) d B esb)

-- the first esb with which it does, from the given one on
unfoldable pub shaping_from : Format → List ℕ → ℕ → ℕ → First
shaping_from format d B esb = first_of (completes format d B) esb (1024 - esb)

abbrev pub shaping_at : First → Option ℕ
shaping_at (found esb) = Some esb
shaping_at none = None
