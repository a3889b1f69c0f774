-- What asking for the next proper pair answers, what the output holds afterwards, and where a listing goes on (document 02, No. 9).
-- Assumes nothing.
use Rattle.std.specs.Prelude.{ℕ, ◌+◌, ◌*◌, ◌/◌, ◌%◌, cond, List, [], ◌∷◌, ◌++◌, ltb, length, drop, Option, Result, Some, None, Ok, Err}
use Rattle.bits.specs.Search.{First, found, none}
use Rattle.formats.specs.declared.format.Format.{Format}
use Rattle.formats.specs.Numbers.{numbers_of}
use Rattle.refusals.specs.Refused.{refusal_number}
use Rattle.refusals.specs.Table.{verdict, outcome_by}
use Rattle.refusals.specs.Outcome.{Outcome, outcome}
use Rattle.refusals.specs.AnswerValues.{format_number}
use Rattle.encoder.specs.Encoding.{telegram_at}
use Rattle.quick_encoder.specs.PairFrom.{pair_from}
use Rattle.maker.specs.Making.{format_of}
use Rattle.maker.specs.PairTests.{pair_table}
use Rattle.telegrams.specs.Telegram.{pair_with}
use Rattle.telegrams.specs.declared.Pair.{Pair}
use Rattle.lister.specs.declared.Listed.{Listed}
use Rattle.refusals.specs.declared.Refusal.{Refusal}

-- the format, and the pair B, esb
abbrev pub listed_with : Format → ℕ → ℕ → Listed
listed_with format B esb = record { format = format; pair = pair_with B esb }

-- the values of each answer: the number, 0 where nothing is refused, the format, B, esb, and 1 where there are no more
abbrev pub listed_values : Result (Option Listed) Refusal → List ℕ
listed_values (Ok (Some next)) = 0 ∷ format_number next.format ∷ next.pair.scrambling ∷ next.pair.shaping ∷ 0 ∷ []
listed_values (Ok None) = 0 ∷ 0 ∷ 0 ∷ 0 ∷ 1 ∷ []
listed_values (Err refusal) = refusal_number refusal ∷ 0 ∷ 0 ∷ 0 ∷ 0 ∷ []

-- "it returns the next pair at or after it in the same order, with its telegram, or says there are no more, with the output's bytes kept"
abbrev pub listed : Format → List ℕ → List ℕ → First → Outcome (Result (Option Listed) Refusal)
listed format u out (found p) = outcome (Ok (Some (listed_with format (p / 1024) (p % 1024)))) (telegram_at format u p ++ drop (numbers_of format).n out)
listed format u out none = outcome (Ok None) out

unfoldable pub next_as : Format → List ℕ → ℕ → ℕ → List ℕ → Outcome (Result (Option Listed) Refusal)
next_as format u B esb out =
    outcome_by Err out (listed format u out (pair_from format u (1024 * B + esb))) (verdict (pair_table format (length out) u B esb))

-- any block, B and esb
unfoldable pub next_of : List ℕ → ℕ → ℕ → List ℕ → Outcome (Result (Option Listed) Refusal)
next_of u B esb out = next_as (format_of u) u B esb out

-- "going on just after each answer", until "4095, 1023 was the answer"
unfoldable pub just_after : ℕ → ℕ → Option Pair
just_after B esb = cond (ltb esb 1023) (Some (pair_with B (esb + 1))) (cond (ltb B 4095) (Some (pair_with (B + 1) 0)) None)
