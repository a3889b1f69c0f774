-- `scrambling::Scrambler::xor_top` meets its contract: XOR of two bits is their sum modulo 2. Assumes nothing.
use Rattle.std.proofs.Common.{arith}
use Rattle.bits.proofs.Xor.{bit_xor_bits}
use Rattle.scrambling.proofs.Scrambler.xor_top.Goals as goal

pub returns : goal.returns
returns c = bit_xor_bits _ _ (omega arith) (omega arith)
