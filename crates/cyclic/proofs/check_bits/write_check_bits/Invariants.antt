-- `cyclic::check_bits::write_check_bits` meets its contract. The loop's invariant: the first i bits are in place, and the rest of the buffer
-- is as it was. Assumes nothing.
use Rattle.std.proofs.Common.{◌-◌}
use Rattle.bits.specs.Bits.{bits_of}
use Rattle.bits.proofs.Writer.{Written}
use Rattle.formats.specs.Value.{value_of}
use Rattle.cyclic.proofs.check_bits.write_check_bits.Given as goal

abbrev pub invariant-loop-i : goal.invariant-loop-i
invariant-loop-i l = Written (bits_of 85 (value_of l.r)) l.initial.out l.out (bits_of (85 - l.i) (value_of l.r)) l.i
