-- `conditions::off_step::limit_at` meets its contract: its arms are the cases of the definition. Assumes nothing.
use Rattle.std.proofs.Common.{arith}
use Rattle.std.proofs.lemmas.Bool.Decides.{nat_tests}
use Rattle.conditions.specs.Conditions.{limit_at}
use Rattle.conditions.proofs.off_step.limit_at.Goals as goal

pub returns-in_default-eq1 : goal.returns-in_default-eq1
unfolding limit_at
returns-in_default-eq1 c = grind (arith, nat_tests)

pub returns-in-Long-default : goal.returns-in-Long-default
unfolding limit_at
returns-in-Long-default c = rw c.in-Long-default.is-0 (grind (arith, nat_tests))

pub returns-in-Short-default : goal.returns-in-Short-default
unfolding limit_at
returns-in-Short-default c = rw c.in-Short-default.is-0 (grind (arith, nat_tests))
