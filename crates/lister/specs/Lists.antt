-- What asking for the next proper pair means (document 02, No. 9; the request, demand 1).
-- Assumes nothing.
use Rattle.std.specs.Prelude.{ℕ, ◌+◌, ◌*◌, ◌≡◌, List, ◌++◌, ◌↔◌, ◌⊎◌, length, drop, Option, Result, Some, None, Ok, Err}
use Rattle.formats.specs.declared.format.Format.{Format}
use Rattle.formats.specs.Numbers.{numbers_of}
use Rattle.refusals.specs.declared.Refusal.{Refusal}
use Rattle.refusals.specs.declared.Refusal.TheVariants.{NoPair}
use Rattle.refusals.specs.Table.{RefusesInOrder}
use Rattle.refusals.specs.Outcome.{Outcome, outcome, FrontWritten}
use Rattle.telegrams.specs.Telegram.{telegram_of}
use Rattle.encoder.specs.Encoding.{encode_of, encoded_with}
use Rattle.encoder.specs.FirstPair.{ProperFrom, NoneProperFrom}
use Rattle.maker.specs.Making.{format_of}
use Rattle.maker.specs.PairTests.{pair_table}
use Rattle.lister.specs.Listing.{next_of, listed_with}
use Rattle.encoder.specs.declared.Encoded.{Encoded}
use Rattle.lister.specs.declared.Listed.{Listed}

-- demand 1: what next answers by its table
pub record NextAnswers (u : List ℕ) (B esb : ℕ) (out : List ℕ) : Type 0 where
  -- 1, 2, 27, 3: the first in this order that applies, and none otherwise
  pub refuses : RefusesInOrder Err (pair_table (format_of u) (length out) u B esb) (next_of u B esb out).answer
  -- document 01: "outputs keep every byte"
  pub keeps : (r : Refusal) → (next_of u B esb out).answer ≡ Err r → (next_of u B esb out).output ≡ out
  -- "or says there are no more, with the output's bytes kept"
  pub keeps_at_end : (next_of u B esb out).answer ≡ Ok None → (next_of u B esb out).output ≡ out
  -- document 01: "Success writes exactly the first n or m bytes; longer outputs keep their tails."
  pub writes : (format : Format) (C e : ℕ) → (next_of u B esb out).answer ≡ Ok (Some (listed_with format C e))
      → FrontWritten (numbers_of format).n out (next_of u B esb out).output

-- the pair, and its telegram over the front of the output
abbrev pub wrote_next : Format → List ℕ → List ℕ → ℕ → ℕ → Outcome (Result (Option Listed) Refusal)
wrote_next format u out C e = outcome (Ok (Some (listed_with format C e))) (telegram_of (numbers_of format) u C e ++ drop (numbers_of format).n out)

-- "it returns the next pair at or after it in the same order, with its telegram, or says there are no more"
pub record NextExactly (format : Format) (u : List ℕ) (B esb : ℕ) (out : List ℕ) : Type 0 where
  -- it answers with a pair, and writes that pair's telegram, exactly when the pair is the first proper one at or after B, esb
  pub gives_next : (C e : ℕ) → (next_of u B esb out ≡ wrote_next format u out C e) ↔ ProperFrom format u (1024 * B + esb) C e
  -- it says that there are no more exactly when there is none
  pub says_no_more : (next_of u B esb out ≡ outcome (Ok None) out) ↔ NoneProperFrom format u (1024 * B + esb)
  -- and it does one of the two
  pub next_or_none : ((C : ℕ) × (e : ℕ) × ProperFrom format u (1024 * B + esb) C e × (next_of u B esb out ≡ wrote_next format u out C e))
      ⊎ (NoneProperFrom format u (1024 * B + esb) × (next_of u B esb out ≡ outcome (Ok None) out))

-- ---- from 0, 0 on

-- what encode answers where next, from 0, 0 on, answers so: the pair with its count, and refusal 4 where there are no more
abbrev pub as_encoded : Result (Option Listed) Refusal → Result Encoded Refusal
as_encoded (Ok (Some next)) = Ok (encoded_with next.format next.pair.scrambling next.pair.shaping (1024 * next.pair.scrambling + next.pair.shaping + 1))
as_encoded (Ok None) = Err NoPair
as_encoded (Err r) = Err r

-- the first of all is encode's: from 0, 0 on the two give the same answer, and leave the same bytes
abbrev pub FirstIsEncode : List ℕ → List ℕ → Type 0
FirstIsEncode u out = let first = next_of u 0 0 out in encode_of u out ≡ outcome (as_encoded first.answer) first.output
