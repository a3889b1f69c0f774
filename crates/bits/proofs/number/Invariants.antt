-- `bits::number` meets its contract. The loop's invariant: the number of the k bits is that of the bits passed, x, and then the rest. Assumes nothing.
use mathlib.Core.Path.{◌≡◌}
use Prim.Native.Nat.{◌<◌, ◌^◌}
use lib.ListN.{drop}
use Rattle.bits.specs.Bits.{number_from, number_of}
use Rattle.bits.proofs.number.Given as goal

abbrev pub invariant-loop-b : goal.invariant-loop-b
invariant-loop-b l = (l.x < 2 ^ l.b-index) × (number_of l.b-items ≡ number_from l.x (drop l.b-index l.b-items))
