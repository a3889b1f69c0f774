-- `conditions::off_step::within` meets its contract: the closure tests each place. Assumes nothing.
use Rattle.std.proofs.Common.{rules}
use Rattle.std.proofs.lemmas.Iterator.{serves_from_Range}
use Rattle.formats.proofs.Sizes.{telegram_between, words_fill}
use Rattle.conditions.specs.Conditions.{off_step_at, off_step_within}
use Rattle.conditions.proofs.Each.{each_from_all}
use Rattle.conditions.proofs.Limits.{limit_most}
use Rattle.conditions.proofs.off_step.within.Goals as goal

pub all-requires-clause-callable : goal.all-requires-clause-callable
all-requires-clause-callable c = serves_from_Range (λ x q e. search rules) (λ x from below. search (rules, limit_most, words_fill, telegram_between))

pub returns : goal.returns
unfolding off_step_within off_step_at
returns c = each_from_all _ 1 10 _ _ _ c.all.ensures.ran (λ x b q e. search rules)
