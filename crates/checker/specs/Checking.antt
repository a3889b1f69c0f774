-- What checking a telegram answers (document 01, "When the bench says no"; document 02, No. 13).
-- Assumes nothing.
use Rattle.std.specs.Prelude.{ℕ, not, List, [], ◌∷◌, eqb, length, Result, Ok, Err}
use Rattle.bits.specs.Bits.{all_bits, same}
use Rattle.formats.specs.declared.format.Format.{Format}
use Rattle.formats.specs.Numbers.{short, numbers_of, format_for}
use Rattle.refusals.specs.declared.Refusal.{Refusal}
use Rattle.refusals.specs.declared.Refusal.TheVariants.{Length, NotBit, NotDivisible, NoTurn, Control, NotWord}
use Rattle.refusals.specs.Table.{Row, ◌when◌, verdict, answer_by}
use Rattle.refusals.specs.AnswerValues.{format_number, refusal_values}
use Rattle.cyclic.specs.Check.{divisible, unturned}
use Rattle.telegrams.specs.Telegram.{control}
use Rattle.telegrams.specs.Fields.{control_of, all_words}
use Rattle.telegrams.specs.Worded.{bad_word}
use Rattle.conditions.specs.FirstFailing.{condition_table}

-- the values of each answer: the number, 0 where nothing is refused, and the format; or those of the refusal
abbrev pub checked_values : Result Format Refusal → List ℕ
checked_values (Ok format) = 0 ∷ format_number format ∷ []
checked_values (Err refusal) = refusal_values refusal

-- the format that the number of bytes picks
abbrev pub format_of : List ℕ → Format
format_of b = format_for short.n (length b)

-- when each refusal applies to bytes that are to be the format's telegram
unfoldable pub check_table : Format → List ℕ → List (Row Refusal)
check_table format b =
    let F = numbers_of format in
    Length when not (eqb (length b) F.n)
    ∷ NotBit when not (all_bits b)
    ∷ NotDivisible when not (divisible F b)
    ∷ NoTurn when not (unturned F b)
    ∷ Control when not (same (control_of F b) control)
    ∷ NotWord (bad_word F.words b) when not (all_words F.words b)
    ∷ condition_table format b

unfoldable pub check_as : Format → List ℕ → Result Format Refusal
check_as format b = answer_by Err (Ok format) (verdict (check_table format b))

-- any bytes
unfoldable pub check_of : List ℕ → Result Format Refusal
check_of b = check_as (format_of b) b
