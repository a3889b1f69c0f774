-- A number in two words, high * 2^64 + low, with one binary digit added to it. Assumes nothing.
use mathlib.Core.Path.{◌≡◌, sym, ap, ◌∙◌}
use Prim.Native.Nat.{ℕ, ◌+◌, ◌*◌, ◌%◌, ◌^◌, ◌<◌}
use native.Mathlib.Nat.{one-mul, zero-add, add-zero, mod-eq_of_lt}
use lib.Bits.{bit_xor, xor_block, xor_zero_r}
use lib.Dec.{lit<}
use lib.Pow.{pow-lt, pow-add}

-- what `1u64 << e` is
pub shifted_one : (e : ℕ) → e < 64 → 1 * 2 ^ e % 2 ^ 64 ≡ 2 ^ e
shifted_one e h = ap (λ (x : ℕ). x % 2 ^ 64) (one-mul (2 ^ e)) ∙ mod-eq_of_lt (pow-lt h)

-- the digit of weight 2^e stands in the low word
pub low_digit : (high low e : ℕ) → low < 2 ^ 64 → e < 64 → high * 2 ^ 64 + bit_xor low (2 ^ e) ≡ bit_xor (high * 2 ^ 64 + low) (2 ^ e)
low_digit high low e fits h =
    ap (λ (x : ℕ). x * 2 ^ 64 + bit_xor low (2 ^ e)) (sym (xor_zero_r high))
    ∙ sym (xor_block 64 high 0 low (2 ^ e) fits (pow-lt h))
    ∙ ap (λ (x : ℕ). bit_xor (high * 2 ^ 64 + low) x) (zero-add (2 ^ e))

-- the digit of weight 2^(e + 64) stands in the high word
pub high_digit : (high low e : ℕ) → low < 2 ^ 64 → bit_xor high (2 ^ e) * 2 ^ 64 + low ≡ bit_xor (high * 2 ^ 64 + low) (2 ^ (e + 64))
high_digit high low e fits =
    ap (λ (x : ℕ). bit_xor high (2 ^ e) * 2 ^ 64 + x) (sym (xor_zero_r low))
    ∙ sym (xor_block 64 high (2 ^ e) low 0 fits (lit< tt))
    ∙ ap (λ (x : ℕ). bit_xor (high * 2 ^ 64 + low) x) (add-zero (2 ^ e * 2 ^ 64) ∙ sym (pow-add 2 e 64))
