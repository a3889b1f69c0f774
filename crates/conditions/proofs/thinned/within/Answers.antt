-- `conditions::thinned::within` meets its contract: the closure tests each value of k. Assumes nothing.
use Rattle.std.proofs.Common.{rules}
use Rattle.conditions.specs.Conditions.{thinned_within}
use Rattle.conditions.proofs.Each.{each_from_all}
use Rattle.conditions.proofs.thinned.within.Goals as goal

pub returns : goal.returns
unfolding thinned_within
returns c = each_from_all _ 1 4 _ _ _ c.all.ensures.ran (λ x b q e. search rules)
