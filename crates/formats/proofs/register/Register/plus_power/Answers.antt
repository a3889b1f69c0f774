-- `formats::register::Register::plus_power` meets its contract: the digit stands in one of the two words. Assumes nothing.
use mathlib.Core.Path.{◌≡◌, ap, ◌∙◌}
use Prim.Native.Nat.{ℕ, ◌+◌, ◌-◌, ◌*◌, ◌^◌, ◌<◌}
use native.Mathlib.Omega.{arith}
use lib.Bits.{bit_xor}
use Rattle.formats.specs.Value.{value_of}
use Rattle.formats.proofs.TwoWords.{shifted_one, low_digit, high_digit}
use Rattle.formats.proofs.register.Register.plus_power.Goals as goal

pub returns-then-e-lt64 : goal.returns-then-e-lt64
returns-then-e-lt64 c =
    let a = c.args in
    let low_fits : a.self.low < 2 ^ 64 = omega arith in
    let below : a.e < 64 = omega arith in
    ap (λ (x : ℕ). a.self.high * 2 ^ 64 + bit_xor a.self.low x) (shifted_one a.e below)
    ∙ low_digit a.self.high a.self.low a.e low_fits below

pub returns-else-e-lt64 : goal.returns-else-e-lt64
returns-else-e-lt64 c =
    let a = c.args in
    let low_fits : a.self.low < 2 ^ 64 = omega arith in
    let below : a.e - 64 < 64 = omega arith in
    let whole : a.e - 64 + 64 ≡ a.e = omega arith in
    ap (λ (x : ℕ). bit_xor a.self.high x * 2 ^ 64 + a.self.low) (shifted_one (a.e - 64) below)
    ∙ high_digit a.self.high a.self.low (a.e - 64) low_fits
    ∙ ap (λ (x : ℕ). bit_xor (value_of a.self) (2 ^ x)) whole
