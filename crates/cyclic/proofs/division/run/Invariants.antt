-- `cyclic::division::run` meets its contract. The loop's invariant: the run over all bits is the run over the rest. Assumes nothing.
use Rattle.cyclic.proofs.Machine.Running.{Running}
use Rattle.cyclic.proofs.division.run.Given as goal

abbrev pub invariant-loop-b : goal.invariant-loop-b
invariant-loop-b g l =
    let value = g.R.DivisionRegister.value in
    Running (value l.divisor) l.degree (value l.initial.r) l.bits (value l.r) l.b-index
