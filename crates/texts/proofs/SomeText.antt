-- What is read in parts is some text: none yet, one part more, and a read that fails. Assumes nothing.
use mathlib.Core.Path.{◌≡◌, sym, ap, ◌∙◌}
use mathlib.Core.List.{List, [], ◌∷◌, ◌++◌}
use Prim.Native.Nat.{ℕ, ◌≤◌}
use lib.ListN.{length}
use Rattle.refusals.specs.Outcome.{Outcome, outcome}
use Rattle.texts.specs.declared.reading.BadText.{BadText}
use Rattle.std.specs.Prelude.{Result, Ok, Err}
use Rattle.texts.specs.Reading.{Taken, held, taken, kept}
use Rattle.texts.specs.Input.{OfSomeText}
use Rattle.texts.proofs.Taken.{taken-nil, taken-append, kept-held, kept_more, kept_stopped, counted_within}

pub some_none : (count : ℕ) (old : List ℕ) → count ≤ length old → OfSomeText (outcome (Ok count) old) count old
some_none count old h = ([], sym (ap (λ (t : Taken). kept t old) (taken-nil (length old) (held count old)) ∙ kept-held old count h))

pub some_more : (count n : ℕ) (buffer old : List ℕ) {o : Outcome (Result ℕ BadText)} → OfSomeText (outcome (Ok n) buffer) count old → length buffer ≡ length old
    → OfSomeText o n buffer → OfSomeText o count old
some_more count n buffer old w same v = (
  w.0 ++ v.0,
  kept_more (length old) (taken (length old) (held count old) w.0) n buffer old v.0 w.1
      (v.1 ∙ ap (λ (l : ℕ). kept (taken l (held n buffer) v.0) buffer) same)
      ∙ ap (λ (t : Taken). kept t old) (sym (taken-append (length old) (held count old) w.0 v.0)),
)

-- a read that fails is as a byte that is no character
pub some_failed : (count n : ℕ) (buffer old : List ℕ) → OfSomeText (outcome (Ok n) buffer) count old → OfSomeText (outcome (Err record {}) buffer) count old
some_failed count n buffer old w = (
  w.0 ++ 0 ∷ [],
  kept_stopped (length old) (taken (length old) (held count old) w.0) n buffer old w.1
      ∙ ap (λ (t : Taken). kept t old) (sym (taken-append (length old) (held count old) w.0 (0 ∷ []))),
)

pub some_within : (count n : ℕ) (buffer old : List ℕ) → OfSomeText (outcome (Ok n) buffer) count old → n ≤ length buffer
some_within count n buffer old w = counted_within (taken (length old) (held count old) w.0) n buffer old w.1
