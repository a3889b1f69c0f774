-- `cyclic::check_bits::coefficient` meets its contract: the digit stands in one of the two words. Assumes nothing.
use Rattle.std.proofs.Common.{rules}
use Rattle.cyclic.proofs.Machine.Words.{low_digit, high_digit}
use Rattle.cyclic.proofs.check_bits.coefficient.Goals as goal

pub returns-then-e-lt64 : goal.returns-then-e-lt64
returns-then-e-lt64 c =
    let a = c.args in
    low_digit a.r.high a.r.low a.e (search rules) (search rules)

pub returns-else-e-lt64 : goal.returns-else-e-lt64
returns-else-e-lt64 c =
    let a = c.args in
    high_digit a.r.high a.r.low a.e (search rules) (search rules)
