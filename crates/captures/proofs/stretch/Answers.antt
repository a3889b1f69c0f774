-- `captures::stretch` meets its contract: the window at the place found, or nothing. Assumes nothing.
use mathlib.Core.Path.{sym, ap, ◌∙◌}
use Rattle.captures.specs.Captures.{stretch_as, stretch_of}
use Rattle.captures.proofs.stretch.Goals as goal

pub returns-in-Ok : goal.returns-in-Ok
unfolding stretch_of
returns-in-Ok c = c.window_at.ensures ∙ ap (stretch_as c.args.capture.now) (sym c.in-Ok.is ∙ c.search.ensures)

pub returns-in-Err : goal.returns-in-Err
unfolding stretch_of
returns-in-Err c = ap (stretch_as c.args.capture.now) (sym c.in-Err.is ∙ c.search.ensures)
