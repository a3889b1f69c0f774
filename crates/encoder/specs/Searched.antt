-- What the search for the first proper pair tests of each telegram, and what it answers (document 01, "Search, reading and place").
-- Assumes nothing.
use Rattle.std.specs.Prelude.{ℕ, ◌-◌, ◌/◌, ◌%◌, Bool, ◌&&◌, List, drop, Option, Some, None}
use Rattle.bits.specs.Search.{First, found, none}
use Rattle.formats.specs.declared.format.Format.{Format}
use Rattle.formats.specs.Numbers.{numbers_of}
use Rattle.telegrams.specs.Fields.{all_words}
use Rattle.conditions.specs.Conditions.{off_step_within, not_repeating, thinned_within}
use Rattle.telegrams.specs.Telegram.{pair_with}
use Rattle.telegrams.specs.declared.Pair.{Pair}

-- the last ten words are in the table, and conditions 2, 3 and 4 hold: what is left to test of a telegram that was made
unfoldable pub made_proper : Format → List ℕ → Bool
made_proper format t =
    all_words 10 (drop ((numbers_of format).n - 110) t) && (off_step_within format t && (not_repeating format t && thinned_within format t))

-- pair p has B = p / 1024 and esb = p % 1024
abbrev pub pair_of : First → Option Pair
pair_of (found p) = Some (pair_with (p / 1024) (p % 1024))
pair_of none = None
