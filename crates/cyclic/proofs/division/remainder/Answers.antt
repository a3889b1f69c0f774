-- `cyclic::division::remainder` meets its contract: a run from the empty register on. Assumes nothing.
use Rattle.cyclic.proofs.Machine.Divisors.{empty-number}
use Rattle.cyclic.proofs.division.remainder.Goals as goal

pub returns-clause-result_value : goal.returns-clause-result_value
returns-clause-result_value g c =
    let a = c.args in
    empty-number a.degree (g.R.DivisionRegister.value a.divisor) a.bits.now c.zero.ensures c.run.ensures.result_value
