-- What encoding a block answers, and what the output holds afterwards (document 01, "Search, reading and place", and
-- "When the bench says no").
-- Assumes nothing.
use Rattle.std.specs.Prelude.{ℕ, ◌+◌, ◌/◌, ◌%◌, Bool, not, List, [], ◌∷◌, ◌++◌, eqb, leb, length, drop, Result, Ok, Err}
use Rattle.bits.specs.Bits.{all_bits}
use Rattle.bits.specs.Search.{First, first_of, is_found, which_found}
use Rattle.formats.specs.declared.format.Format.{Format}
use Rattle.formats.specs.Numbers.{short, numbers_of, format_for}
use Rattle.refusals.specs.declared.Refusal.{Refusal}
use Rattle.refusals.specs.declared.Refusal.TheVariants.{Length, NotBit, OutputShort, NoPair}
use Rattle.refusals.specs.Refused.{pair_count, refusal_number, tried_count}
use Rattle.refusals.specs.Table.{Row, ◌when◌, verdict, outcome_by}
use Rattle.refusals.specs.Outcome.{Outcome, outcome}
use Rattle.refusals.specs.AnswerValues.{format_number}
use Rattle.telegrams.specs.Telegram.{telegram_of}
use Rattle.conditions.specs.Conditions.{proper}
use Rattle.encoder.specs.declared.Encoded.{Encoded}
use Rattle.telegrams.specs.Telegram.{pair_with}

-- the format, the pair B, esb, and the count of pairs tried
abbrev pub encoded_with : Format → ℕ → ℕ → ℕ → Encoded
encoded_with format B esb tried = record { format = format; pair = pair_with B esb; tried = tried }

-- the values of each answer: the number, 0 where nothing is refused, the format, B, esb and the count of pairs tried; a refusal has
-- the number and the count
abbrev pub encoded_values : Result Encoded Refusal → List ℕ
encoded_values (Ok first) = 0 ∷ format_number first.format ∷ first.pair.scrambling ∷ first.pair.shaping ∷ first.tried ∷ []
encoded_values (Err refusal) = refusal_number refusal ∷ 0 ∷ 0 ∷ 0 ∷ tried_count refusal ∷ []

-- the format that the block's length picks
abbrev pub format_of : List ℕ → Format
format_of u = format_for short.m (length u)

-- the pairs in counting order: pair p has B = p / 1024 and esb = p % 1024
unfoldable pub telegram_at : Format → List ℕ → ℕ → List ℕ
telegram_at format u p = telegram_of (numbers_of format) u (p / 1024) (p % 1024)

-- the pair's telegram is proper
unfoldable pub passes : Format → List ℕ → ℕ → Bool
passes format u p = proper format (telegram_at format u p)

-- the first proper pair, or none
unfoldable pub first_pair : Format → List ℕ → First
first_pair format u = first_of (passes format u) 0 pair_count

-- when each refusal applies to a block that is to be the format's, room being the output's length
unfoldable pub encode_table : Format → ℕ → List ℕ → List (Row Refusal)
encode_table format room u =
    let F = numbers_of format in
    Length when not (eqb (length u) F.m)
    ∷ NotBit when not (all_bits u)
    ∷ OutputShort when not (leb F.n room)
    ∷ NoPair when not (is_found (first_pair format u))
    ∷ []

-- the pair, its count, and its telegram over the front of the output
unfoldable pub written : Format → List ℕ → List ℕ → ℕ → Outcome (Result Encoded Refusal)
written format u out p =
    outcome (Ok (encoded_with format (p / 1024) (p % 1024) (p + 1))) (telegram_at format u p ++ drop (numbers_of format).n out)

unfoldable pub encode_as : Format → List ℕ → List ℕ → Outcome (Result Encoded Refusal)
encode_as format u out =
    outcome_by Err out (written format u out (which_found (first_pair format u))) (verdict (encode_table format (length out) u))

-- any block
unfoldable pub encode_of : List ℕ → List ℕ → Outcome (Result Encoded Refusal)
encode_of u out = encode_as (format_of u) u out
