-- `cyclic::remainder::remainder_f` meets its contract: f fits the low word. Assumes nothing.
use Rattle.std.proofs.Common.{◌∙◌}
use Rattle.cyclic.proofs.Formats.{facts_of}
use Rattle.cyclic.proofs.Machine.Divisors.{f_low, divisor_degree, divided}
use Rattle.cyclic.proofs.remainder.remainder_f.Goals as goal

pub remainder-requires-clause-divisor_degree : goal.remainder-requires-clause-divisor_degree
remainder-requires-clause-divisor_degree c = divisor_degree (facts_of c.args.format).f_degree (f_low c.args.format c.f.result c.f.ensures)

pub returns-clause-value : goal.returns-clause-value
returns-clause-value c =
    let a = c.args in
    c.remainder.ensures.result_value ∙ divided (facts_of a.format).f_degree (f_low a.format c.f.result c.f.ensures) a.bits.now
