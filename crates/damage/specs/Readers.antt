-- Readers that test a window as read and read_well_formed do, but for refusals 5 and 6, whose tests may be others (document 01, "When the
-- bench says no"): to say which wrong readers are ruled out where bursts are refused.
-- Assumes nothing.
use Rattle.std.specs.Prelude.{ℕ, ◌-◌, Bool, true, not, List, ◌∷◌, ◌++◌, length, take, drop, Result, Err}
use Rattle.formats.specs.declared.format.Format.{Format}
use Rattle.formats.specs.Numbers.{Numbers, numbers_of}
use Rattle.refusals.specs.declared.Refusal.{Refusal}
use Rattle.refusals.specs.declared.Refusal.TheVariants.{EndsDiffer, NotDivisible}
use Rattle.refusals.specs.Table.{Row, ◌when◌, verdict, outcome_by}
use Rattle.refusals.specs.Outcome.{Outcome}
use Rattle.cyclic.specs.Check.{divisible}
use Rattle.reader.specs.declared.Asked.{Asked}
use Rattle.reader.specs.Reads.{format_of, ends_agree, read_table, read_out}
use Rattle.damage.specs.Bursts.{RefusesBursts}
use Rattle.reader.specs.declared.Reading.{Reading}

-- how a reader tests that the ends of a window agree, and that g divides
pub record Tests : Type 0 where
  pub ends : Numbers → List ℕ → Bool
  pub divided : Numbers → List ℕ → Bool

-- the rows of the window calls' table, with these tests for 5 and 6, its fourth and fifth row
unfoldable pub table_with : Tests → Asked → Format → ℕ → List ℕ → List (Row Refusal)
table_with tests asked format room w =
    let F = numbers_of format in
    let rows = read_table asked format room w in
    take 3 rows ++ (EndsDiffer when not (tests.ends F w) ∷ NotDivisible when not (tests.divided F w) ∷ drop 5 rows)

-- what such a reader answers, and what the output holds
unfoldable pub read_with : Tests → Asked → List ℕ → List ℕ → Outcome (Result Reading Refusal)
read_with tests asked w out =
    let format = format_of w in
    outcome_by Err out (read_out format w out) (verdict (table_with tests asked format (length out) w))

-- ---- the tests of read and read_well_formed: `read_with the_tests` is `read_by`
abbrev pub the_tests : Tests
the_tests = record { ends = λ F w. ends_agree F w; divided = λ F w. divisible F (take F.n w) }

-- ---- wrong ones

-- the ends are not tested
abbrev pub ends_untested : Tests
ends_untested = record { ends = λ F w. true; divided = the_tests.divided }

-- only a part of the first n bits is divided, all but the last
abbrev pub part_divided : Tests
part_divided = record { ends = the_tests.ends; divided = λ F w. divisible F (take (F.n - 1) w) }

-- any remainder by g is taken
abbrev pub any_remainder : Tests
any_remainder = record { ends = the_tests.ends; divided = λ F w. true }

-- none of these refuses bursts, whether it asks for proper telegrams or for well-formed ones
pub record WrongReaders : Type 0 where
  pub ends_untested_not : (asked : Asked) → RefusesBursts (read_with ends_untested asked) → ⊥
  pub part_divided_not : (asked : Asked) → RefusesBursts (read_with part_divided asked) → ⊥
  pub any_remainder_not : (asked : Asked) → RefusesBursts (read_with any_remainder asked) → ⊥
