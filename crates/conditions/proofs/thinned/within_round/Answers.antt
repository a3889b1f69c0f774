-- `conditions::thinned::within_round` meets its contract: the closure tests each alignment. Assumes nothing.
use Rattle.std.proofs.Common.{rules}
use Rattle.conditions.specs.Conditions.{thinned_at}
use Rattle.conditions.proofs.Each.{each_from_all}
use Rattle.conditions.proofs.thinned.within_round.Goals as goal

pub returns : goal.returns
unfolding thinned_at
returns c = each_from_all _ 0 11 _ _ _ c.all.ensures.ran (λ x b q e. search rules)
