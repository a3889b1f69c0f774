-- `words::entries` meets its contract: the code's table is that of `specs/Table.antt`. Assumes nothing.
use mathlib.Core.Path.{refl}
use Rattle.words.specs.Table.{table}
use Rattle.words.proofs.entries.Goals as goal

pub returns : goal.returns
unfolding table
returns c = refl
