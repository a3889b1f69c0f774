-- What reading standard input comes to. Which text is read no contract can name. Assumes nothing.
use Rattle.std.specs.Prelude.{ℕ, ◌≡◌, List, Option, Some, None, Result, Ok, Err}
use Rattle.refusals.specs.Outcome.{Outcome}
use Rattle.texts.specs.declared.input.SoFar.{SoFar}
use Rattle.texts.specs.declared.reading.BadText.{BadText}
use Rattle.texts.specs.Reading.{taken_into}

-- the answer and the buffer are those of some text after the first count bits of the old buffer
abbrev pub OfSomeText : Outcome (Result ℕ BadText) → ℕ → List ℕ → Type 0
OfSomeText o count old = (text : List ℕ) × (o ≡ taken_into old count text)

-- the progress after one read that began with count bits
abbrev pub progress_after : ℕ → Result (Option SoFar) BadText → Result ℕ BadText
progress_after count (Ok (Some more)) = Ok more.count
progress_after count (Ok None) = Ok count
progress_after count (Err e) = Err e
