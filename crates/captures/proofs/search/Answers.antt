-- `captures::search` meets its contract. Assumes nothing.
use mathlib.Core.Path.{sym, ap, ◌∙◌}
use lib.Dec.{lit≤}
use Rattle.refusals.specs.Outcome.{Outcome}
use Rattle.captures.proofs.Steps.{same_answer}
use Rattle.captures.proofs.search.Goals as goal
use Rattle.std.specs.Prelude.{Result}
use Rattle.captures.specs.declared.Found.{Found}
use Rattle.refusals.specs.declared.Refusal.{Refusal}

pub returns : goal.returns
returns c = sym (ap (λ (x : Outcome (Result Found Refusal)). x.answer) c.search_read.ensures) ∙ same_answer _ _ (lit≤ tt)
