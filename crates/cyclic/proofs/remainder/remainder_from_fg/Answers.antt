-- `cyclic::remainder::remainder_from_fg` meets its contract. Assumes nothing.
use Rattle.std.proofs.Common.{◌∙◌}
use Rattle.bits.specs.Bits.{bits_of}
use Rattle.formats.specs.Value.{value_of}
use Rattle.cyclic.proofs.Formats.{facts_of}
use Rattle.cyclic.proofs.Machine.Divisors.{divisor_degree, divided_from}
use Rattle.cyclic.proofs.remainder.remainder_from_fg.Goals as goal

pub run-requires-clause-division : goal.run-requires-clause-division
run-requires-clause-division c =
    record { degree = divisor_degree (facts_of c.args.format).fg_degree c.fg.ensures; fits = c.requires.start_bound; bits = c.requires.are_bits }

pub returns-clause-result_value : goal.returns-clause-result_value
returns-clause-result_value c =
    let a = c.args in
    c.run.ensures.result_value ∙ divided_from (facts_of a.format).fg_degree c.fg.ensures (bits_of 85 (value_of a.start)) a.bits.now
