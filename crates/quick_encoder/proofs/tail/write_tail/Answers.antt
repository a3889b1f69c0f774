-- `quick_encoder::tail::write_tail` meets its contract: the two numbers are written, the one after the other. Assumes nothing.
use Rattle.bits.specs.Bits.{bits_of}
use Rattle.bits.proofs.Numbers.{length-bits_of}
use Rattle.telegrams.proofs.Buffers.Fronts.{front_more}
use Rattle.quick_encoder.proofs.tail.write_tail.Goals as goal

pub returns : goal.returns
returns c =
    let a = c.args in
    let old = a.out.now in
    let high = bits_of 55 a.tail.high in
    let low = bits_of 55 a.tail.low in
    front_more high low old c.write_five_words.new.out c.write_five_words-2.new.out 55 55 (length-bits_of 55 a.tail.high)
    c.write_five_words.ensures c.write_five_words-2.ensures
