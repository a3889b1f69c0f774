-- One try of the search through a capture, and the search without its tests (for the contracts of private functions).
-- Assumes nothing.
use Rattle.std.specs.Prelude.{ℕ, cond, List, ◌++◌, drop, Option, Result, Some, None, Err}
use Rattle.bits.specs.Search.{First, found, none}
use Rattle.formats.specs.declared.format.Format.{Format}
use Rattle.formats.specs.Numbers.{numbers_of}
use Rattle.refusals.specs.declared.Refusal.TheVariants.{NoPlace}
use Rattle.refusals.specs.Outcome.{Outcome, outcome}
use Rattle.reader.specs.Reads.{reading_in, user_bits_in}
use Rattle.captures.specs.Captures.{window_at, accepts_as, found_out}
use Rattle.captures.specs.declared.Found.{Found}
use Rattle.reader.specs.declared.Reading.{Reading}
use Rattle.refusals.specs.declared.Refusal.{Refusal}

-- the reading of the format's window at place p, and its user bits over the front of the output, where read accepts it
unfoldable pub attempt_of : Format → List ℕ → ℕ → List ℕ → Outcome (Option Reading)
attempt_of format s p out =
    let w = window_at format s p in
    cond (accepts_as format s p)
    (outcome (Some (reading_in format w)) (user_bits_in format w ++ drop (numbers_of format).m out))
    (outcome None out)

-- what is found at the first place, or refusal 13
abbrev pub out_found : List ℕ → List ℕ → First → Outcome (Result Found Refusal)
out_found s out (found p) = found_out s p out
out_found s out none = outcome (Err NoPlace) out
