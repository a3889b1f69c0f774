-- `balise::balise_check` meets its contract, by that of `checker::check`. Assumes nothing.
use mathlib.Core.Path.{sym}
use Rattle.checker.specs.Checking.{checked_values}
use Rattle.balise.specs.AsNumber.{checked_sizes}
use Rattle.balise.proofs.Answers.{same_fits, check_fits}
use Rattle.balise.proofs.balise_check.Goals as goal

pub checked-requires : goal.checked-requires
checked-requires c = same_fits checked_sizes checked_values (sym c.check-answer.ensures) (check_fits _)
