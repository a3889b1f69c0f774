-- Numbers under a mask that is minus a bit, modulo 2^w: no digit is kept, or every one. Assumes nothing.
use mathlib.Core.Logic.{⊎_elim}
use mathlib.Core.Path.{◌≡◌, sym, ap, ◌∙◌}
use Prim.Native.Nat.{ℕ, zero, suc, ◌+◌, ◌-◌, ◌*◌, ◌%◌, ◌^◌, ◌<◌}
use native.Mathlib.Nat.{add-zero, zero-mul, one-mul, mod-eq_of_lt, eq-or-lt_of_le}
use native.Mathlib.Omega.{arith}
use lib.Bits.{bit_and, and_comm, and_mask}

-- minus 0 is 0
none : (w mask : ℕ) → mask < 2 ^ w → (mask + 0) % 2 ^ w ≡ 0 → mask ≡ 0
none w mask h e = sym (mod-eq_of_lt h) ∙ ap (λ (n : ℕ). n % 2 ^ w) (sym (add-zero mask)) ∙ e

-- minus 1 is all ones
ones : (w mask : ℕ) → mask < 2 ^ w → (mask + 1) % 2 ^ w ≡ 0 → mask ≡ 2 ^ w - 1
ones w mask h e =
    ⊎_elim (λ full. omega arith) (λ less. let kept : mask + 1 < 2 ^ w = omega arith in absurd (omega (arith, mod-eq_of_lt kept))) (eq-or-lt_of_le h)

-- a number x of w binary digits, under minus the bit, is the bit times x
pub masked : (w bit mask x : ℕ) → bit < 2 → mask < 2 ^ w → x < 2 ^ w → (mask + bit) % 2 ^ w ≡ 0 → bit_and mask x ≡ bit * x
masked w zero mask x b m fits e = ap (λ (n : ℕ). bit_and n x) (none w mask m e) ∙ sym (zero-mul x)
masked w (suc zero) mask x b m fits e =
    ap (λ (n : ℕ). bit_and n x) (ones w mask m e) ∙ and_comm (2 ^ w - 1) x ∙ and_mask x w ∙ mod-eq_of_lt fits ∙ sym (one-mul x)
masked w (suc (suc bit)) mask x b m fits e = absurd (omega arith)
