-- `cyclic::remainder::remainder_g` meets its contract. Assumes nothing.
use Rattle.std.proofs.Common.{◌∙◌}
use Rattle.cyclic.proofs.Formats.{facts_of}
use Rattle.cyclic.proofs.Machine.Divisors.{divisor_degree, divided}
use Rattle.cyclic.proofs.remainder.remainder_g.Goals as goal

pub remainder-requires-clause-divisor_degree : goal.remainder-requires-clause-divisor_degree
remainder-requires-clause-divisor_degree c = divisor_degree (facts_of c.args.format).g_degree c.g.ensures

pub returns-clause-result_value : goal.returns-clause-result_value
returns-clause-result_value c =
    c.remainder.ensures.result_value ∙ divided (facts_of c.args.format).g_degree c.g.ensures c.args.bits.now
