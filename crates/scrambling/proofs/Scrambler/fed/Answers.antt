-- `scrambling::Scrambler::fed` meets its contract: the feedback under the mask is 0, or all of it. Assumes nothing.
use Rattle.std.proofs.Common.{◌≡◌, ℕ, zero, suc, ◌*◌, ◌<◌, cond, eqb, refl, ap, ◌∙◌, arith, lit<}
use lib.Bits.{bit_xor, xor_zero_r}
use Rattle.bits.proofs.Mask.{masked}
use Rattle.scrambling.specs.Scrambling.{feedback, shifted, next_state}
use Rattle.scrambling.proofs.Scrambler.fed.Goals as goal

-- the bit times the feedback is XORed
xor-times : (x bit : ℕ) → bit < 2 → bit_xor x (bit * feedback) ≡ cond (eqb bit 1) (bit_xor x feedback) x
xor-times x zero h = xor_zero_r x
xor-times x (suc zero) h = refl
xor-times x (suc (suc bit)) h = absurd (omega arith)

pub returns : goal.returns
unfolding next_state
returns c =
    let a = c.args in
    let bit : a.bit < 2 = omega arith in
    ap (bit_xor (shifted a.self.state))
    (masked 32 a.bit c.wrapping_sub_u32-mask.result feedback bit (omega arith) (lit< tt) c.wrapping_sub_u32-mask.ensures.value)
    ∙ xor-times (shifted a.self.state) a.bit bit
