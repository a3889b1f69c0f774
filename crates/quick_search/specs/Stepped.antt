-- What one step of a format's walk through a capture tells (for the contract of a private function). Assumes nothing.
use Rattle.std.specs.Prelude.{ℕ, ◌≤◌, ◌<◌, ◌≡◌, Bool, true, false, List, Option, Some, None, Ok}
use Rattle.formats.specs.declared.format.Format.{Format}
use Rattle.formats.specs.Numbers.{numbers_of}
use Rattle.refusals.specs.Outcome.{outcome}
use Rattle.reader.specs.declared.Asked.TheVariants.{Proper}
use Rattle.reader.specs.Reads.{read_as}
use Rattle.captures.specs.Captures.{window_at, accepts_as}
use Rattle.quick_search.specs.Pairs.{PairsAgree}
use Rattle.captures.specs.declared.Found.{Found}
use Rattle.quick_search.specs.declared.walk.Walk.{Walk}

-- read accepts the format's window at none of the places from p up to q, q left out
abbrev pub NoneFrom : Format → List ℕ → ℕ → ℕ → Type 0
NoneFrom format s p q = (j : ℕ) → p ≤ j → j < q → accepts_as format s j ≡ false

-- where a refused run goes on up to place p: the pairs from some place on agree, and the window there is not accepted
abbrev pub GoesOn : Format → List ℕ → ℕ → Bool → Type 0
GoesOn format s p true = (q : ℕ) × ((q ≤ p) × PairsAgree (numbers_of format).n s q p × (accepts_as format s q ≡ false))
GoesOn format s p false = Unit {0}

-- at place p the window is read, or none before a later place is, and the output is as it was
abbrev pub Stepped : Format → List ℕ → ℕ → List ℕ → Option Found → Walk → List ℕ → Type 0
Stepped format s p out (Some here) walk after = (here.place ≡ p) × (read_as Proper format (window_at format s p) out ≡ outcome (Ok here.reading) after)
Stepped format s p out None walk after = (p < walk.place) × NoneFrom format s p walk.place × GoesOn format s walk.place walk.refused × (after ≡ out)
