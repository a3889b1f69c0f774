-- `conditions::ring::is_word_at` meets its contract. Assumes nothing.
use mathlib.Core.Path.{ap, ◌∙◌}
use Rattle.words.specs.Words.{in_table, is_word}
use Rattle.conditions.proofs.ring.is_word_at.Goals as goal

pub returns : goal.returns
unfolding is_word
returns c = c.in_table.ensures ∙ ap in_table c.word_around.ensures
