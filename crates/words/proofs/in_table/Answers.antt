-- `words::in_table` meets its contract: the word's bit tells. Assumes nothing.
use Rattle.words.proofs.Ranks.{any_bit_tells}
use Rattle.words.proofs.in_table.Goals as goal

pub returns : goal.returns
returns c =
    any_bit_tells c.args.word _ c.part_at-part.ensures.0
