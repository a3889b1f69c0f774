-- `telegrams::making::shape` meets its contract. The loop's invariant: the words of the first j blocks stand in front, and the rest is as it
-- was. Assumes nothing.
use mathlib.Core.Path.{◌≡◌}
use mathlib.Core.List.{◌++◌}
use Prim.Native.Nat.{◌*◌}
use lib.ListN.{drop}
use Rattle.telegrams.specs.Telegram.{shaped}
use Rattle.telegrams.proofs.making.shape.Given as goal

abbrev pub invariant-loop-j : goal.invariant-loop-j
invariant-loop-j l = l.out ≡ shaped l.j l.scrambled ++ drop (11 * l.j) l.initial.out
