-- `balise::balise_make` meets its contract, by that of `maker::make`. Assumes nothing.
use Rattle.maker.specs.Making.{made_values}
use Rattle.balise.specs.AsNumber.{made_sizes}
use Rattle.balise.proofs.Answers.{answer_fits, make_fits}
use Rattle.balise.proofs.balise_make.Goals as goal

pub made-requires : goal.made-requires
made-requires c = answer_fits made_sizes made_values c.make-answer.ensures (make_fits _ _ _ _)
