-- `bits::flip` meets its contract. The loop's invariant: the flip of the bits passed is written. Assumes nothing.
use lib.ListN.{drop}
use Rattle.bits.specs.Bits.{flip}
use Rattle.bits.proofs.Writer.{Written}
use Rattle.bits.proofs.flip.Given as goal

abbrev pub invariant-loop-bit : goal.invariant-loop-bit
invariant-loop-bit l = Written (flip l.initial.s) l.initial.s l.s (flip (drop l.bit-index l.initial.s)) l.bit-index
