-- `balise::balise_read` meets its contract, by that of `reader::read`. Assumes nothing.
use Rattle.reader.specs.declared.Asked.TheVariants.{Proper}
use Rattle.reader.specs.Reads.{read_values}
use Rattle.balise.specs.AsNumber.{read_sizes}
use Rattle.balise.proofs.Answers.{answer_fits, read_fits}
use Rattle.balise.proofs.balise_read.Goals as goal

pub read-requires : goal.read-requires
read-requires c = answer_fits read_sizes read_values c.read-answer.ensures (read_fits Proper _ _)
