-- A division whose register is held as a number. In one step the register shifts left, a bit comes in, and where the place of the
-- divisor's highest power is reached the divisor is added, so that this place is 0 again.
-- Assumes nothing.
use Rattle.std.specs.Prelude.{◌≡◌, ℕ, ◌+◌, ◌*◌, ◌/◌, ◌^◌, ◌<◌, Bool, true, false, T, List, bit_xor, nat_le}
use Rattle.bits.specs.Bits.{all_bits}

-- w, plus the divisor d where the place is reached
abbrev pub reduced_v : Bool → ℕ → ℕ → ℕ
reduced_v true d w = bit_xor w d
reduced_v false d w = w

-- the register v after one more bit b. The divisor is d, and p the weight of its highest power
unfoldable pub step_v : ℕ → ℕ → ℕ → ℕ → ℕ
step_v d p v b = reduced_v (nat_le p (v * 2 + b)) d (v * 2 + b)

-- what a division starts from: a divisor d of degree k, a register v of k bits, and the bits s that are to come in
pub record Division (k d v : ℕ) (s : List ℕ) : Type 0 where
  pub degree : d / 2 ^ k ≡ 1
  pub fits : v < 2 ^ k
  pub bits : T (all_bits s)
