-- `formats::register::RegisterBitXor::bitxor` meets its contract: the sum is made word by word. Assumes nothing.
use Rattle.std.proofs.Common.{sym, rules}
use lib.Bits.{xor_block}
use Rattle.formats.proofs.register.RegisterBitXor.bitxor.Goals as goal

pub returns : goal.returns
returns c =
    let a = c.args.self in
    let b = c.args.rhs in
    sym (xor_block 64 a.high b.high a.low b.low (search rules) (search rules))
