-- What the tests before the search tell of a block u and an output (document 01, "When the bench says no", refusals 1 to 3). For the contract
-- of a function that the calls share. Assumes nothing.
use Rattle.std.specs.Prelude.{ℕ, ◌≡◌, List, Result, Ok, Err}
use Rattle.refusals.specs.Outcome.{outcome}
use Rattle.encoder.specs.Encoding.{encode_of}
use Rattle.encoder.specs.Encodes.{CleanBlock}
use Rattle.refusals.specs.declared.Refusal.{Refusal}
use Rattle.formats.specs.declared.format.Format.{Format}

-- a block of the format with room for the telegram, or a block that is so refused
abbrev pub TestedFor : List ℕ → List ℕ → Result Format Refusal → Type 0
TestedFor u out (Ok format) = CleanBlock format u out
TestedFor u out (Err refusal) = encode_of u out ≡ outcome (Err refusal) out
