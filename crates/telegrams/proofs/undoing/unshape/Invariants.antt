-- `telegrams::undoing::unshape` meets its contract. The loop's invariant: the blocks of the first j words stand in front, the rest is as it
-- was, and the first bad word is that of the words not yet passed. Assumes nothing.
use mathlib.Core.Path.{◌≡◌}
use mathlib.Core.List.{◌++◌}
use Prim.Native.Nat.{◌*◌}
use lib.ListN.{drop}
use Rattle.bits.specs.Search.{first_of}
use Rattle.bits.proofs.Left.{Left}
use Rattle.telegrams.specs.Fields.{unshaped}
use Rattle.telegrams.specs.Worded.{is_bad}
use Rattle.telegrams.proofs.undoing.unshape.Given as goal

abbrev pub invariant-loop-j : goal.invariant-loop-j
invariant-loop-j l =
    Left (is_bad l.telegram) (first_of (is_bad l.telegram) 0 l.k) l.k l.j
    × (l.out ≡ unshaped l.j l.telegram ++ drop (10 * l.j) l.initial.out)
