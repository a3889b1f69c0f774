-- What the tests before the search tell of a capture s and an output (document 01, "When the bench says no", refusals 1 to 3). For the contract
-- of a function that the calls share. Assumes nothing.
use Rattle.std.specs.Prelude.{ℕ, ◌≤◌, ◌≡◌, List, T, length, Result, Ok, Err}
use Rattle.bits.specs.Bits.{all_bits}
use Rattle.formats.specs.Numbers.{long}
use Rattle.refusals.specs.Outcome.{outcome}
use Rattle.captures.specs.Captures.{capture_limit, search_read_of}
use Rattle.refusals.specs.declared.Refusal.{Refusal}

-- a capture within the limit, all bits, and room for the user bits of either format
pub record CleanCapture (s out : List ℕ) : Type 0 where
  pub within : length s ≤ capture_limit
  pub bits : T (all_bits s)
  pub room : long.m ≤ length out

-- that, or a capture that is so refused
abbrev pub TestedFor : List ℕ → List ℕ → Result (Unit {0}) Refusal → Type 0
TestedFor s out (Ok tt) = CleanCapture s out
TestedFor s out (Err refusal) = search_read_of s out ≡ outcome (Err refusal) out
