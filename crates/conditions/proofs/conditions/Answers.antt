-- `conditions::conditions` meets its contract, by that of `first_failing`. Assumes nothing.
use mathlib.Core.Path.{ap, ◌∙◌}
use Rattle.std.specs.Prelude.{is_ok}
use Rattle.conditions.proofs.FirstFailing.{conditions_hold}
use Rattle.conditions.proofs.conditions.Goals as goal

pub returns : goal.returns
returns c = c.is_ok.ensures.value ∙ ap is_ok c.first_failing.ensures ∙ conditions_hold _ _
