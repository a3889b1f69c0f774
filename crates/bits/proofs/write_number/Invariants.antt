-- `bits::write_number` meets its contract. The loop's invariant: the first i digits are written, and the lowest k - i come next.
-- Assumes nothing.
use Prim.Native.Nat.{◌-◌}
use Rattle.bits.specs.Bits.{bits_of}
use Rattle.bits.proofs.Writer.{Written}
use Rattle.bits.proofs.write_number.Given as goal

abbrev pub invariant-loop-i : goal.invariant-loop-i
invariant-loop-i l = Written (bits_of l.k l.x) l.initial.out l.out (bits_of (l.k - l.i) l.x) l.i
