-- `scrambling::pass` meets its contract. The loop's invariant: the first i bits that came out are written, and the rest come from the register and
-- the bits not yet passed. Assumes nothing.
use Rattle.std.proofs.Common.{cond, drop}
use Rattle.bits.proofs.Writer.{Written}
use Rattle.scrambling.specs.Scrambling.{scrambled, descrambled}
use Rattle.scrambling.proofs.Steps.{undoes, passed_from}
use Rattle.scrambling.proofs.pass.Given as goal

abbrev pub invariant-loop-i : goal.invariant-loop-i
invariant-loop-i g l =
    let undo = undoes g.row.UNDO in
    Written (cond undo (descrambled l.b l.block) (scrambled l.b l.block)) l.initial.out l.out (passed_from undo l.register.state (drop l.i l.block)) l.i
