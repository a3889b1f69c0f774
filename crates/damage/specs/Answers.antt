-- What a window call answers where it surely refuses (document 01, "When the bench says no").
-- Assumes nothing.
use Rattle.std.specs.Prelude.{ℕ, ◌≤◌, ◌<◌, List, [], ◌∷◌, ◌⊎◌, ◌≡◌, length, Result, Err}
use Rattle.formats.specs.declared.format.Format.{Format}
use Rattle.formats.specs.Numbers.{numbers_of}
use Rattle.refusals.specs.declared.Refusal.{Refusal}
use Rattle.refusals.specs.declared.Refusal.TheVariants.{OutputShort}
use Rattle.refusals.specs.Outcome.{Outcome, outcome}
use Rattle.reader.specs.declared.Reading.{Reading}

-- refused with one of these, and every byte of the output is kept
abbrev pub OneOf : List Refusal → List ℕ → Outcome (Result Reading Refusal) → Type 0
OneOf [] out answered = ⊥
OneOf (refusal ∷ others) out answered = (answered ≡ outcome (Err refusal) out) ⊎ OneOf others out answered

-- the answer to a window of the format: refused with 3 where the output is too short for the user bits, otherwise with one of these
pub record RefusedWith (refusals : List Refusal) (format : Format) (out : List ℕ) (answered : Outcome (Result Reading Refusal)) : Type 0 where
  pub without_room : length out < (numbers_of format).m → answered ≡ outcome (Err OutputShort) out
  pub with_room : (numbers_of format).m ≤ length out → OneOf refusals out answered
