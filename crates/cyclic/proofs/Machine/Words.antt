-- One step of the division on a register of two words, high * 2^64 + low. Assumes nothing.
use Rattle.std.proofs.Common.{◌≡◌, ℕ, zero, suc, ◌+◌, ◌-◌, ◌*◌, ◌/◌, ◌%◌, ◌^◌, ◌<◌, ◌≤◌, sym, ap, ◌∙◌, ap₂, mul_assoc, mul-add, arith, shr-shr}
use lib.Bits.{bit_xor, xor_block}
use lib.Pow.{high, low, field, mod-mod-pow}
use Rattle.cyclic.specs.Machine.{step_v}
use Rattle.cyclic.proofs.Machine.Out.{step_v-times}

-- the two words after the shift, with the bit in
shifted_words : (high low b : ℕ) → low < 2 ^ 64 → (high * 2 + low / 2 ^ 63) * 2 ^ 64 + (low * 2 ^ 1 % 2 ^ 64 + b) ≡ (high * 2 ^ 64 + low) * 2 + b
shifted_words high low b fits = omega arith

low_fits : (low b : ℕ) → b < 2 → low * 2 ^ 1 % 2 ^ 64 + b < 2 ^ 64
low_fits low b hb = omega arith

-- a bit times a word fits a word
times_fits : (c x : ℕ) → c < 2 → x < 2 ^ 64 → c * x < 2 ^ 64
times_fits zero x hc h = omega arith
times_fits (suc zero) x hc h = omega arith
times_fits (suc (suc c)) x hc h = absurd (omega arith)

-- the sum of two registers is made word by word
sum_words : (high low high' low' : ℕ) → low < 2 ^ 64 → low' < 2 ^ 64
    → bit_xor high high' * 2 ^ 64 + bit_xor low low' ≡ bit_xor (high * 2 ^ 64 + low) (high' * 2 ^ 64 + low')
sum_words high low high' low' h h' = sym (xor_block 64 high high' low low' h h')

-- the digits from 2^e on stand in the high word
high_digits : (hi lo e : ℕ) → lo < 2 ^ 64 → 64 ≤ e → hi / 2 ^ (e - 64) ≡ (hi * 2 ^ 64 + lo) / 2 ^ e
high_digits hi lo e fits h =
    let v = hi * 2 ^ 64 + lo in
    ap (λ (x : ℕ). x / 2 ^ (e - 64)) (sym (high hi 64 fits)) ∙ shr-shr v 64 (e - 64) ∙ ap (λ (n : ℕ). v / 2 ^ n) (omega arith)

-- the bit that goes out, by its place in the high word
pub high_out : (hi lo k : ℕ) → lo < 2 ^ 64 → 64 < k → hi / 2 ^ (k - 65) ≡ (hi * 2 ^ 64 + lo) / 2 ^ (k - 1)
high_out hi lo k fits h =
    let place : k - 65 ≡ k - 1 - 64 = omega arith in
    ap (λ (n : ℕ). hi / 2 ^ n) place ∙ high_digits hi lo (k - 1) fits (omega arith)

-- one step: the divisor is added word by word, times the bit c that goes out
pub step_words : (hi lo dh dl b k c : ℕ) → lo < 2 ^ 64 → dl < 2 ^ 64 → b < 2 → 64 < k → hi * 2 ^ 64 + lo < 2 ^ k
    → c ≡ (hi * 2 ^ 64 + lo) / 2 ^ (k - 1) → c < 2
    → bit_xor (hi * 2 + lo / 2 ^ 63) (c * dh) * 2 ^ 64 + bit_xor (lo * 2 ^ 1 % 2 ^ 64 + b) (c * dl) ≡ step_v (dh * 2 ^ 64 + dl) (2 ^ k) (hi * 2 ^ 64 + lo) b
step_words hi lo dh dl b k c fits dfits hb hk below e hc =
    let v = hi * 2 ^ 64 + lo in
    let d = dh * 2 ^ 64 + dl in
    let times : c * dh * 2 ^ 64 + c * dl ≡ c * d = ap (λ (x : ℕ). x + c * dl) (mul_assoc c dh (2 ^ 64)) ∙ sym (mul-add c (dh * 2 ^ 64) dl) in
    sum_words (hi * 2 + lo / 2 ^ 63) (lo * 2 ^ 1 % 2 ^ 64 + b) (c * dh) (c * dl) (low_fits lo b hb) (times_fits c dl hc dfits)
    ∙ ap₂ bit_xor (shifted_words hi lo b fits) (times ∙ ap (λ (x : ℕ). x * d) e) ∙ step_v-times d k v b (omega arith) below hb

-- the binary digit of weight 2^e, in the low word
pub low_digit : (hi lo e : ℕ) → lo < 2 ^ 64 → e < 64 → lo / 2 ^ e % 2 ≡ (hi * 2 ^ 64 + lo) / 2 ^ e % 2
low_digit hi lo e fits h =
    let v = hi * 2 ^ 64 + lo in
    let whole : 63 - e + 1 + e ≡ 64 = omega arith in
    ap (λ (x : ℕ). x / 2 ^ e % 2) (sym (low hi 64 fits) ∙ ap (λ (n : ℕ). v % 2 ^ n) (sym whole))
    ∙ ap (λ (x : ℕ). x % 2) (field v (63 - e + 1) e) ∙ mod-mod-pow (v / 2 ^ e) (63 - e) 1

-- and in the high word
pub high_digit : (hi lo e : ℕ) → lo < 2 ^ 64 → 64 ≤ e → hi / 2 ^ (e - 64) % 2 ≡ (hi * 2 ^ 64 + lo) / 2 ^ e % 2
high_digit hi lo e fits h = ap (λ (x : ℕ). x % 2) (high_digits hi lo e fits h)
