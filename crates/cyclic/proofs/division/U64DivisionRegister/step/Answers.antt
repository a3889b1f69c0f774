-- `cyclic::division::U64DivisionRegister::step` meets its contract: the divisor under the mask is the divisor times the bit that goes out.
-- Assumes nothing.
use Rattle.std.proofs.Common.{◌+◌, ◌-◌, ◌*◌, ◌/◌, ◌^◌, ◌<◌, ap, ◌∙◌, rules}
use lib.Bits.{bit_xor}
use Rattle.bits.proofs.Mask.{masked}
use Rattle.cyclic.proofs.Machine.Out.{out_bit, step_v-times}
use Rattle.cyclic.proofs.division.U64DivisionRegister.step.Goals as goal

pub returns : goal.returns
returns c =
    let a = c.args in
    let h = c.requires in
    let divisor-fits : a.divisor < 2 ^ 64 = search rules in
    let mask_fits : c.wrapping_sub_u64-mask.result < 2 ^ 64 = search rules in
    ap (bit_xor (a.self * 2 + a.b))
    (masked 64 (a.self / 2 ^ (a.degree - 1)) c.wrapping_sub_u64-mask.result a.divisor (out_bit a.degree a.self h.room.0 h.s_bound) mask_fits divisor-fits c.wrapping_sub_u64-mask.ensures.value)
    ∙ step_v-times a.divisor a.degree a.self a.b h.room.0 h.s_bound h.b_bound
