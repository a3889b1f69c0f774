-- XOR of two bits is their sum modulo 2. Assumes nothing.
use mathlib.Core.Path.{◌≡◌, refl}
use Prim.Native.Nat.{ℕ, zero, suc, ◌+◌, ◌%◌, ◌<◌}
use native.Mathlib.Omega.{arith}
use lib.Bits.{bit_xor}

pub bit_xor_bits : (a b : ℕ) → a < 2 → b < 2 → bit_xor a b ≡ (a + b) % 2
bit_xor_bits zero b h k = omega arith
bit_xor_bits (suc zero) zero h k = refl
bit_xor_bits (suc zero) (suc zero) h k = refl
bit_xor_bits (suc zero) (suc (suc b)) h k = absurd (omega arith)
bit_xor_bits (suc (suc a)) b h k = absurd (omega arith)
