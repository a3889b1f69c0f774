-- What reading the telegram that stands at a turn answers: for the contracts of functions that are no calls.
-- Assumes nothing.
use Rattle.std.specs.Prelude.{ℕ, Bool, List, ◌++◌, drop, Result, Ok, Err}
use Rattle.formats.specs.declared.format.Format.{Format}
use Rattle.formats.specs.Numbers.{numbers_of}
use Rattle.refusals.specs.Table.{verdict, answer_by, outcome_by}
use Rattle.refusals.specs.Outcome.{Outcome, outcome}
use Rattle.telegrams.specs.Fields.{user_bits_of}
use Rattle.reader.specs.declared.Asked.{Asked}
use Rattle.reader.specs.Reads.{is_flipped, turned_back, telegram_in, asked_table, telegram_table, reading_of}
use Rattle.reader.specs.declared.Reading.{Reading}
use Rattle.refusals.specs.declared.Refusal.{Refusal}

-- the first condition that the telegram b fails, of those that are asked for
unfoldable pub asked_failing : Asked → Format → List ℕ → Result (Unit {0}) Refusal
asked_failing asked format b = answer_by Err (Ok (tt {0})) (verdict (asked_table asked format b))

-- the telegram b, found at the turn t, upright or flipped
unfoldable pub read_telegram : Asked → Format → ℕ → Bool → List ℕ → List ℕ → Outcome (Result Reading Refusal)
read_telegram asked format t flipped b out =
    let F = numbers_of format in
    outcome_by Err out
    (outcome (Ok (reading_of format t flipped b)) (user_bits_of F b ++ drop F.m out))
    (verdict (telegram_table asked format b))

-- the telegram that the window w has at the turn t
unfoldable pub read_at_turn : Asked → Format → ℕ → List ℕ → List ℕ → Outcome (Result Reading Refusal)
read_at_turn asked format t w out =
    let F = numbers_of format in
    read_telegram asked format t (is_flipped F (turned_back F t w)) (telegram_in F t w) out
