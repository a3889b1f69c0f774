-- `quick_encoder::tail::TailBitXor::bitxor` meets its contract: the two numbers are added digit by digit. Assumes nothing.
use mathlib.Core.Path.{sym, ap₂, ◌∙◌}
use mathlib.Core.List.{◌++◌}
use Rattle.bits.specs.Bits.{bits_of}
use Rattle.bits.proofs.Numbers.{length-bits_of}
use Rattle.cyclic.proofs.Lists.{sum-append}
use Rattle.cyclic.proofs.Machine.Sums.{bits_of-xor}
use Rattle.quick_encoder.proofs.tail.TailBitXor.bitxor.Goals as goal

pub returns : goal.returns
returns c =
    let s = c.args.self in
    let t = c.args.other in
    ap₂ ◌++◌ (bits_of-xor 55 s.high t.high) (bits_of-xor 55 s.low t.low)
    ∙ sym (sum-append (bits_of 55 s.high) (bits_of 55 t.high) (bits_of 55 s.low) (bits_of 55 t.low)
    (length-bits_of 55 s.high ∙ sym (length-bits_of 55 t.high)))
