-- `cyclic::division::RegisterDivisionRegister::step` meets its contract: the two words are shifted as one number, and the divisor under the mask is the
-- divisor times the bit that goes out. Assumes nothing.
use Rattle.std.proofs.Common.{◌≡◌, ℕ, ◌+◌, ◌-◌, ◌*◌, ◌/◌, ◌%◌, ◌^◌, ◌<◌, ◌∙◌, ap₂, arith, pow_mono, rules}
use lib.Bits.{bit_xor}
use Rattle.bits.proofs.Mask.{masked}
use Rattle.formats.specs.Value.{value_of}
use Rattle.cyclic.proofs.Machine.Out.{out_bit}
use Rattle.cyclic.proofs.Machine.Words.{high_out, step_words}
use Rattle.cyclic.proofs.division.RegisterDivisionRegister.step.Goals as goal

pub overflow_mul-high : goal.overflow_mul-high
overflow_mul-high c = omega (arith, pow_mono {i = c.args.degree} {j = 126} (omega arith))

pub overflow_add-high : goal.overflow_add-high
overflow_add-high c = omega (arith, pow_mono {i = c.args.degree} {j = 126} (omega arith))

pub returns : goal.returns
returns c =
    let a = c.args in
    let h = c.requires in
    let k = a.degree in
    let mask = c.wrapping_sub_u64-mask.result in
    let out = a.self.high / 2 ^ (k - 65) in
    let low_fits : a.self.low < 2 ^ 64 = search rules in
    let high-divisor-fits : a.divisor.high < 2 ^ 64 = search rules in
    let low-divisor-fits : a.divisor.low < 2 ^ 64 = search rules in
    let mask_fits : mask < 2 ^ 64 = search rules in
    let place : out ≡ value_of a.self / 2 ^ (k - 1) = high_out a.self.high a.self.low k low_fits h.room.0 in
    let bit : out < 2 = rw place (out_bit k (value_of a.self) (omega arith) h.s_bound) in
    ap₂ (λ (x y : ℕ). bit_xor (a.self.high * 2 + a.self.low / 2 ^ 63) x * 2 ^ 64 + bit_xor (a.self.low * 2 ^ 1 % 2 ^ 64 + a.b) y)
    (masked 64 out mask a.divisor.high bit mask_fits high-divisor-fits c.wrapping_sub_u64-mask.ensures.value)
    (masked 64 out mask a.divisor.low bit mask_fits low-divisor-fits c.wrapping_sub_u64-mask.ensures.value)
    ∙ step_words a.self.high a.self.low a.divisor.high a.divisor.low a.b k out low_fits low-divisor-fits h.b_bound h.room.0 h.s_bound place bit
