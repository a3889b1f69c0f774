-- `words::in_group_20` meets its contract: `contains` tests one word of the list after the other, as the definition does. Assumes nothing.
use Rattle.words.specs.Words.{in_group20, barred20, among}
use Rattle.words.proofs.in_group_20.Goals as goal

pub returns : goal.returns
unfolding in_group20 barred20 among
returns c = c.contains.ensures.value
