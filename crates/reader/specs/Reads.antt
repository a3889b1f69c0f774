-- What reading a window answers, and what the output holds afterwards (document 01, "Search, reading and place", and
-- "When the bench says no"; document 02, No. 2, No. 11 and No. 13).
-- Assumes nothing.
use Rattle.std.specs.Prelude.{ℕ, ◌-◌, Bool, true, false, not, List, [], ◌∷◌, ◌++◌, eqb, leb, length, get_or, take, drop, Option, Result, Some, None, Ok, Err}
use Rattle.bits.specs.Bits.{all_bits, same}
use Rattle.formats.specs.declared.format.Format.{Format}
use Rattle.formats.specs.Numbers.{Numbers, short, numbers_of, window_bits, format_for, f_of}
use Rattle.refusals.specs.declared.Refusal.{Refusal}
use Rattle.refusals.specs.declared.Refusal.TheVariants.{Length, NotBit, OutputShort, EndsDiffer, NotDivisible, NoTurn, Control, NotWord}
use Rattle.refusals.specs.Table.{Row, ◌when◌, verdict, accepts, outcome_by}
use Rattle.refusals.specs.Outcome.{Outcome, outcome}
use Rattle.refusals.specs.AnswerValues.{format_number, flipped_number, refusal_values}
use Rattle.cyclic.specs.Remainder.{remainder}
use Rattle.cyclic.specs.Check.{turned, turn_of, divisible}
use Rattle.telegrams.specs.Telegram.{control}
use Rattle.telegrams.specs.Fields.{control_of, scrambling_of, shaping_of, all_words, user_bits_of}
use Rattle.telegrams.specs.Worded.{bad_word}
use Rattle.conditions.specs.FirstFailing.{condition_table}
use Rattle.reader.specs.declared.Asked.{Asked}
use Rattle.reader.specs.declared.Asked.TheVariants.{WellFormed, Proper}
use Rattle.reader.specs.declared.Reading.{Reading}
use Rattle.reader.specs.Windows.{oriented}

-- the values of a reading: format, flipped or not, B, turn, the window's place in a capture, and esb
abbrev pub reading_values : ℕ → Reading → List ℕ
reading_values place reading =
    format_number reading.format ∷ flipped_number reading.flipped ∷ reading.scrambling ∷ reading.turn ∷ place ∷ reading.shaping ∷ []

-- the values of each answer: the number, 0 where nothing is refused, and those of the reading, at place 0; or those of the refusal
abbrev pub read_values : Result Reading Refusal → List ℕ
read_values (Ok reading) = 0 ∷ reading_values 0 reading
read_values (Err refusal) = refusal_values refusal

-- the format that the window's length picks
abbrev pub format_of : List ℕ → Format
format_of w = format_for (window_bits short) (length w)

-- ---- the telegram in a window

-- the last r bits repeat the first r
unfoldable pub ends_agree : Numbers → List ℕ → Bool
ends_agree F w = same (drop F.n w) (take F.r w)

-- the turn whose remainder by f the first n bits have, if any
unfoldable pub turn_found : Numbers → List ℕ → Option ℕ
turn_found F w = turn_of F (remainder (f_of F) (take F.n w))

-- is there one, and which; 0 where there is none
abbrev pub is_turn : Option ℕ → Bool
is_turn (Some t) = true
is_turn None = false

abbrev pub which_turn : Option ℕ → ℕ
which_turn (Some t) = t
which_turn None = 0

unfoldable pub turn_in : Numbers → List ℕ → ℕ
turn_in F w = which_turn (turn_found F w)

-- the first n bits turned back by t
unfoldable pub turned_back : Numbers → ℕ → List ℕ → List ℕ
turned_back F t w = turned (F.n - t) (take F.n w)

-- b109 is 1
unfoldable pub is_flipped : Numbers → List ℕ → Bool
is_flipped F b = eqb (get_or b (F.n - 110) 0) 1

-- the first n bits turned back by t, all flipped if b109 is then 1
unfoldable pub telegram_in : Numbers → ℕ → List ℕ → List ℕ
telegram_in F t w = oriented (is_flipped F (turned_back F t w)) (turned_back F t w)

-- ---- the calls

-- the conditions that a call asks for, by their refusals (document 02, No. 2): read 2, 3 and 4, read_well_formed none
abbrev pub asked_table : Asked → Format → List ℕ → List (Row Refusal)
asked_table WellFormed format b = []
asked_table Proper format b = condition_table format b

-- when each refusal from 8 on applies to the telegram b
unfoldable pub telegram_table : Asked → Format → List ℕ → List (Row Refusal)
telegram_table asked format b =
    let F = numbers_of format in
    Control when not (same (control_of F b) control)
    ∷ NotWord (bad_word F.words b) when not (all_words F.words b)
    ∷ asked_table asked format b

-- when each refusal applies to a window that is to be the format's, room being the output's length
unfoldable pub read_table : Asked → Format → ℕ → List ℕ → List (Row Refusal)
read_table asked format room w =
    let F = numbers_of format in
    Length when not (eqb (length w) (window_bits F))
    ∷ NotBit when not (all_bits w)
    ∷ OutputShort when not (leb F.m room)
    ∷ EndsDiffer when not (ends_agree F w)
    ∷ NotDivisible when not (divisible F (take F.n w))
    ∷ NoTurn when not (is_turn (turn_found F w))
    ∷ telegram_table asked format (telegram_in F (turn_in F w) w)

-- what the telegram b tells, found at the turn t
unfoldable pub reading_of : Format → ℕ → Bool → List ℕ → Reading
reading_of format t flipped b =
    let F = numbers_of format in
    record { format = format; scrambling = scrambling_of F b; shaping = shaping_of F b; turn = t; flipped = flipped }

-- what the window tells besides the user bits
unfoldable pub reading_in : Format → List ℕ → Reading
reading_in format w =
    let F = numbers_of format in
    let t = turn_in F w in
    reading_of format t (is_flipped F (turned_back F t w)) (telegram_in F t w)

-- the user bits
unfoldable pub user_bits_in : Format → List ℕ → List ℕ
user_bits_in format w =
    let F = numbers_of format in
    user_bits_of F (telegram_in F (turn_in F w) w)

-- what the window tells, and the user bits over the front of the output
abbrev pub read_out : Format → List ℕ → List ℕ → Outcome (Result Reading Refusal)
read_out format w out = outcome (Ok (reading_in format w)) (user_bits_in format w ++ drop (numbers_of format).m out)

-- a window that is to be the format's
unfoldable pub read_as : Asked → Format → List ℕ → List ℕ → Outcome (Result Reading Refusal)
read_as asked format w out = outcome_by Err out (read_out format w out) (verdict (read_table asked format (length out) w))

-- any window
unfoldable pub read_by : Asked → List ℕ → List ℕ → Outcome (Result Reading Refusal)
read_by asked w out = read_as asked (format_of w) w out

-- by read, and by read_well_formed
abbrev pub read_of : List ℕ → List ℕ → Outcome (Result Reading Refusal)
read_of w out = read_by Proper w out

abbrev pub read_well_formed_of : List ℕ → List ℕ → Outcome (Result Reading Refusal)
read_well_formed_of w out = read_by WellFormed w out

-- lent room, it is accepted as the format's
unfoldable pub reads_as : Asked → Format → List ℕ → Bool
reads_as asked format w = accepts (verdict (read_table asked format (numbers_of format).m w))
