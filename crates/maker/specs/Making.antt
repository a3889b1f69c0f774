-- What making a telegram from a block, B and esb answers, and what the output holds afterwards (document 02, No. 11 and No. 13).
-- Assumes nothing.
use Rattle.std.specs.Prelude.{ℕ, not, List, [], ◌∷◌, ◌++◌, eqb, leb, length, drop, Result, Ok, Err}
use Rattle.bits.specs.Bits.{all_bits}
use Rattle.formats.specs.declared.format.Format.{Format}
use Rattle.formats.specs.Numbers.{short, numbers_of, format_for}
use Rattle.refusals.specs.declared.Refusal.{Refusal}
use Rattle.refusals.specs.declared.Refusal.TheVariants.{Length, NotBit, PairTooLarge, OutputShort, NotWord}
use Rattle.refusals.specs.Table.{Row, ◌when◌, verdict, outcome_by}
use Rattle.refusals.specs.Outcome.{Outcome, outcome}
use Rattle.refusals.specs.AnswerValues.{format_number, refusal_values}
use Rattle.telegrams.specs.Telegram.{is_pair, telegram_of}
use Rattle.telegrams.specs.Fields.{all_words}
use Rattle.telegrams.specs.Worded.{bad_word}

-- the values of each answer: the number, 0 where nothing is refused, and the format; or those of the refusal
abbrev pub made_values : Result Format Refusal → List ℕ
made_values (Ok format) = 0 ∷ format_number format ∷ []
made_values (Err refusal) = refusal_values refusal

-- the format that the block's length picks
abbrev pub format_of : List ℕ → Format
format_of u = format_for short.m (length u)

-- "Refusals are 1, 2, 27 for B or esb too large, 3, then 9 if a word falls outside the table": when each applies to a block that is to
-- be the format's, room being the output's length
unfoldable pub make_table : Format → ℕ → List ℕ → ℕ → ℕ → List (Row Refusal)
make_table format room u B esb =
    let F = numbers_of format in
    Length when not (eqb (length u) F.m)
    ∷ NotBit when not (all_bits u)
    ∷ PairTooLarge when not (is_pair B esb)
    ∷ OutputShort when not (leb F.n room)
    ∷ NotWord (bad_word F.words (telegram_of F u B esb)) when not (all_words F.words (telegram_of F u B esb))
    ∷ []

-- the format, and b over the front of the output
abbrev pub wrote : Format → List ℕ → List ℕ → Outcome (Result Format Refusal)
wrote format b out = outcome (Ok format) (b ++ drop (numbers_of format).n out)

unfoldable pub make_as : Format → List ℕ → ℕ → ℕ → List ℕ → Outcome (Result Format Refusal)
make_as format u B esb out =
    outcome_by Err out (wrote format (telegram_of (numbers_of format) u B esb) out) (verdict (make_table format (length out) u B esb))

-- any block
unfoldable pub make_of : List ℕ → ℕ → ℕ → List ℕ → Outcome (Result Format Refusal)
make_of u B esb out = make_as (format_of u) u B esb out
