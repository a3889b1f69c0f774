-- `conditions::repeating::each_shifted_apart` meets its contract: the closure tests each word. Assumes nothing.
use Rattle.std.proofs.Common.{rules}
use Rattle.formats.specs.Numbers.{long}
use Rattle.conditions.proofs.Each.{each_from_all}
use Rattle.conditions.proofs.repeating.each_shifted_apart.Goals as goal

pub returns : goal.returns
returns c = each_from_all _ 0 long.words _ _ _ c.all.ensures.ran (λ x b q e. search rules)
