-- The tests of a call that is given a block, a pair and an output (document 02, No. 9 and No. 11): refusals 1, 2, 27 and 3, in this order.
-- Assumes nothing.
use Rattle.std.specs.Prelude.{ℕ, not, List, [], ◌∷◌, eqb, leb, length, Result, Ok, Err}
use Rattle.bits.specs.Bits.{all_bits}
use Rattle.formats.specs.declared.format.Format.{Format}
use Rattle.formats.specs.Numbers.{numbers_of}
use Rattle.refusals.specs.declared.Refusal.{Refusal}
use Rattle.refusals.specs.declared.Refusal.TheVariants.{Length, NotBit, PairTooLarge, OutputShort}
use Rattle.refusals.specs.Table.{Row, ◌when◌, Verdict, refused, accepted, verdict}
use Rattle.telegrams.specs.Telegram.{is_pair}
use Rattle.maker.specs.Making.{format_of}

-- "A start with B over 4095 or esb over 1023 is refused with 27, after 1 and 2 and before 3": when each applies to a block that is to be
-- the format's, room being the output's length
unfoldable pub pair_table : Format → ℕ → List ℕ → ℕ → ℕ → List (Row Refusal)
pair_table format room u B esb =
    let F = numbers_of format in
    Length when not (eqb (length u) F.m)
    ∷ NotBit when not (all_bits u)
    ∷ PairTooLarge when not (is_pair B esb)
    ∷ OutputShort when not (leb F.n room)
    ∷ []

-- the first refusal that applies, or the format
abbrev pub tested_as : Format → Verdict Refusal → Result Format Refusal
tested_as format (refused r) = Err r
tested_as format accepted = Ok format

unfoldable pub tested_of : List ℕ → ℕ → ℕ → ℕ → Result Format Refusal
tested_of u B esb room = tested_as (format_of u) (verdict (pair_table (format_of u) room u B esb))
