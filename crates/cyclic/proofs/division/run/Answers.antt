-- `cyclic::division::run` meets its contract. The loop's invariant: the run over all bits is the run over the rest. Assumes nothing.
use Rattle.bits.proofs.AllBits.{all_bits-get_or}
use Rattle.cyclic.proofs.Machine.Running.{running_none, running_more, running_done}
use Rattle.cyclic.proofs.division.run.Goals as goal

pub loop-b-init : goal.loop-b-init
loop-b-init g c = running_none c.requires.division

pub step-r-requires-clause-b_bound : goal.step-r-requires-clause-b_bound
step-r-requires-clause-b_bound g c = all_bits-get_or c.args.bits.now c.loop-b.b-index c.requires.division.bits

pub loop-b-preserved : goal.loop-b-preserved
loop-b-preserved g c = running_more c.requires.division c.loop-b-test.true c.step-r.ensures c.loop-b.invariant

pub returns-clause-result_value : goal.returns-clause-result_value
returns-clause-result_value g c = running_done c.requires.division c.loop-b-test.false c.loop-b.invariant
