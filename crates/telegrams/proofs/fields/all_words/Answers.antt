-- `telegrams::fields::all_words` meets its contract, by that of `go_through`. Assumes nothing.
use mathlib.Core.Path.{ap, ◌∙◌}
use Rattle.std.specs.Prelude.{is_ok}
use Rattle.telegrams.proofs.FirstBad.{worded_all}
use Rattle.telegrams.proofs.fields.all_words.Goals as goal

pub returns : goal.returns
returns c = c.is_ok.ensures.value ∙ ap is_ok c.go_through.ensures ∙ worded_all _ _
