-- What encoding a block means (the request, demands 1 and 2; document 01, "When the bench says no").
-- Assumes nothing.
use Rattle.std.specs.Prelude.{ℕ, ◌+◌, ◌*◌, ◌≤◌, ◌≡◌, List, ◌++◌, ◌↔◌, ◌⊎◌, T, length, drop, Result, Ok, Err}
use Rattle.bits.specs.Bits.{all_bits}
use Rattle.formats.specs.declared.format.Format.{Format}
use Rattle.formats.specs.Numbers.{numbers_of}
use Rattle.refusals.specs.declared.Refusal.{Refusal}
use Rattle.refusals.specs.declared.Refusal.TheVariants.{NoPair}
use Rattle.refusals.specs.Refused.{refusal_number}
use Rattle.refusals.specs.Table.{RefusesBy}
use Rattle.refusals.specs.Outcome.{Outcome, outcome, FrontWritten}
use Rattle.telegrams.specs.Telegram.{telegram_of}
use Rattle.encoder.specs.Encoding.{format_of, encode_table, encode_of, encoded_with}
use Rattle.encoder.specs.FirstPair.{FirstProper, NoneProper}
use Rattle.encoder.specs.declared.Encoded.{Encoded}

-- a block of the format, all bits, and room for the telegram
pub record CleanBlock (format : Format) (u out : List ℕ) : Type 0 where
  pub bits : T (all_bits u)
  pub size : length u ≡ (numbers_of format).m
  pub room : (numbers_of format).n ≤ length out

-- the pair B, esb, its count, and its telegram over the front of the output
abbrev pub wrote_pair : Format → List ℕ → List ℕ → ℕ → ℕ → Outcome (Result Encoded Refusal)
wrote_pair format u out B esb =
    outcome (Ok (encoded_with format B esb (1024 * B + esb + 1))) (telegram_of (numbers_of format) u B esb ++ drop (numbers_of format).n out)

-- refusal 4, and the output as it was
abbrev pub found_none : List ℕ → Outcome (Result Encoded Refusal)
found_none out = outcome (Err NoPair) out

-- demand 1: what encode answers by its table; each quotation is from document 01, "When the bench says no"
pub record EncodeAnswers (u out : List ℕ) : Type 0 where
  -- "The lowest number that applies is given", and none otherwise
  pub refuses : RefusesBy refusal_number Err (encode_table (format_of u) (length out) u) (encode_of u out).answer
  -- "outputs keep every byte"
  pub keeps : (r : Refusal) → (encode_of u out).answer ≡ Err r → (encode_of u out).output ≡ out
  -- "Success writes exactly the first n or m bytes; longer outputs keep their tails."
  pub writes : (format : Format) (B esb tried : ℕ) → (encode_of u out).answer ≡ Ok (encoded_with format B esb tried)
      → FrontWritten (numbers_of format).n out (encode_of u out).output

-- demand 2: "Lent clean input and room for the answer, the encoder gives the first pair of scrambling and shaping bits, in counting order,
-- whose telegram meets every condition, and says there is none exactly when none of the 4,194,304 pairs does"
pub record EncodesFirst (format : Format) (u out : List ℕ) : Type 0 where
  -- it answers with a pair, that pair's count and telegram, exactly when the pair is that first one
  pub gives_first : (B esb : ℕ) → (encode_of u out ≡ wrote_pair format u out B esb) ↔ FirstProper format u B esb
  -- it gives refusal 4, which has the count of all pairs, exactly when there is none
  pub says_none : (encode_of u out ≡ found_none out) ↔ NoneProper format u
  -- and it does one of the two
  pub first_or_none : ((B : ℕ) × (esb : ℕ) × FirstProper format u B esb × (encode_of u out ≡ wrote_pair format u out B esb))
      ⊎ (NoneProper format u × (encode_of u out ≡ found_none out))
