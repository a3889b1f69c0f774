-- `layers::place_or` meets its contract: the search answers with a place exactly where there is a first one. Assumes nothing.
use mathlib.Core.Path.{◌≡◌, refl, sym, ap, ◌∙◌}
use mathlib.Core.List.{List}
use Prim.Native.Nat.{ℕ}
use Rattle.bits.specs.Search.{First, found, none}
use Rattle.bits.proofs.Tests.{clash}
use Rattle.refusals.specs.declared.Refusal.{Refusal}
use Rattle.refusals.specs.Outcome.{Outcome, outcome}
use Rattle.reader.specs.declared.Reading.{Reading}
use Rattle.reader.specs.Reads.{reading_in}
use Rattle.captures.specs.Captures.{window_at, first_place, format_at, found_with}
use Rattle.captures.specs.Attempts.{out_found}
use Rattle.captures.proofs.FoundAt.{same_found, out_as}
use Rattle.layers.specs.Crossing.{place_or}
use Rattle.layers.proofs.place_or.Goals as goal
use Rattle.std.specs.Prelude.{Result, Ok, Err}
use Rattle.captures.specs.declared.Found.{Found}

module _ (n : ℕ) (s out o : List ℕ) where
  -- the answer at a place that is found
  answered : (q : ℕ) (a : Result Found Refusal) → out_found s out (found q) ≡ outcome a o → a ≡ Ok (found_with q (reading_in (format_at s q) (window_at (format_at s q) s q)))
  answered q a e = ap (λ (x : Outcome (Result Found Refusal)). x.answer) (sym e ∙ out_as s q out (format_at s q) refl)

  a_place : (f : First) (p : ℕ) (reading : Reading) → out_found s out f ≡ outcome (Ok (found_with p reading)) o → p ≡ place_or n f
  a_place (found q) p reading e = (same_found (answered q (Ok (found_with p reading)) e)).0
  a_place none p reading e = let answer = ap (λ (x : Outcome (Result Found Refusal)). x.answer) e in clash cc

  no_place_lem : (f : First) (refusal : Refusal) → out_found s out f ≡ outcome (Err refusal) o → n ≡ place_or n f
  no_place_lem (found q) refusal e = let answer = answered q (Err refusal) e in clash cc
  no_place_lem none refusal e = refl

pub returns-in-Ok : goal.returns-in-Ok
returns-in-Ok c s out o e =
    a_place c.args.none s out o (first_place s) _ _ (e ∙ ap (λ (x : Result Found Refusal). outcome x o) c.in-Ok.is)

pub returns-in-Err : goal.returns-in-Err
returns-in-Err c s out o e = no_place_lem _ s out o (first_place s) _ (e ∙ ap (λ (x : Result Found Refusal). outcome x o) c.in-Err.is)
