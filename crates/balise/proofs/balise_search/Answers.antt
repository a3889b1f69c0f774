-- `balise::balise_search` meets its contract, by that of `quick_search::search`. Assumes nothing.
use mathlib.Core.Path.{sym}
use Rattle.captures.specs.Captures.{capture_values}
use Rattle.balise.specs.AsNumber.{search_sizes}
use Rattle.balise.proofs.Answers.{same_fits, search_fits}
use Rattle.balise.proofs.balise_search.Goals as goal

pub searched-requires : goal.searched-requires
searched-requires c = same_fits search_sizes capture_values (sym c.search-answer.ensures) (search_fits _)
