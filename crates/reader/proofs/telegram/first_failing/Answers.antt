-- `reader::telegram::first_failing` meets its contract, by that of `conditions::first_failing`. Assumes nothing.
use mathlib.Core.Path.{sym, ap, ◌∙◌}
use borrow.Author.Rules.{rules}
use Rattle.refusals.specs.Table.{verdict}
use Rattle.conditions.proofs.FirstFailing.{failing_is}
use Rattle.reader.specs.declared.Asked.{Asked}
use Rattle.reader.specs.AtTurn.{asked_failing}
use Rattle.reader.proofs.telegram.first_failing.Goals as goal

pub returns-in-WellFormed : goal.returns-in-WellFormed
unfolding asked_failing verdict
returns-in-WellFormed c = search rules

pub returns-in-Proper : goal.returns-in-Proper
unfolding asked_failing
returns-in-Proper c =
    let a = c.args in
    c.first_failing.ensures ∙ failing_is a.telegram.format a.telegram.bits.now
    ∙ ap (λ (x : Asked). asked_failing x a.telegram.format a.telegram.bits.now) (sym c.in-Proper.is)
