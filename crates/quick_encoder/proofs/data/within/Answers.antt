-- `quick_encoder::data::within` meets its contract: the closure tests each place. Assumes nothing.
use Rattle.std.proofs.Common.{rules}
use Rattle.std.proofs.lemmas.Iterator.{serves_from_Range}
use Rattle.formats.proofs.Sizes.{block_between}
use Rattle.conditions.proofs.Each.{each_from_all}
use Rattle.conditions.proofs.Limits.{limit_most}
use Rattle.quick_encoder.specs.ShapedData.{data_within_at, data_within}
use Rattle.quick_encoder.proofs.data.within.Goals as goal

pub all-requires-clause-callable : goal.all-requires-clause-callable
all-requires-clause-callable c = serves_from_Range (λ x q e. search rules) (λ x from below. search (rules, limit_most, block_between))

pub returns : goal.returns
unfolding data_within data_within_at
returns c = each_from_all _ 1 10 _ _ _ c.all.ensures.ran (λ x b q e. search (rules, limit_most, block_between))
