-- `balise::balise_read_well_formed` meets its contract, by that of `reader::read_well_formed`. Assumes nothing.
use Rattle.reader.specs.declared.Asked.TheVariants.{WellFormed}
use Rattle.reader.specs.Reads.{read_values}
use Rattle.balise.specs.AsNumber.{read_sizes}
use Rattle.balise.proofs.Answers.{answer_fits, read_fits}
use Rattle.balise.proofs.balise_read_well_formed.Goals as goal

pub read-requires : goal.read-requires
read-requires c = answer_fits read_sizes read_values c.read_well_formed-answer.ensures (read_fits WellFormed _ _)
