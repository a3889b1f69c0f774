-- A step of the division with no test: the divisor is added times the bit that the shift brings out, the highest of the register.
-- Assumes nothing.
use Rattle.std.proofs.Common.{◌≡◌, ℕ, zero, suc, ◌+◌, ◌-◌, ◌*◌, ◌/◌, ◌%◌, ◌^◌, ◌<◌, sym, ap, ◌∙◌, mod-lt, one-mul, pow-suc, zero-mul, arith, pow_pos, shr_lt}
use lib.Bits.{bit_xor, xor_zero_r}
use lib.Pow.{split}
use Rattle.cyclic.specs.Machine.{step_v}
use Rattle.cyclic.proofs.Machine.Bridge.{step_v_below, step_v_reached}

-- the weight of the divisor's highest power is twice that of the register's
twice : (k : ℕ) → 0 < k → 2 ^ k ≡ 2 ^ (k - 1) * 2
twice k h =
    let next : k ≡ suc (k - 1) = omega arith in
    ap (λ (n : ℕ). 2 ^ n) next ∙ pow-suc 2 (k - 1)

-- what goes out is a bit
pub out_bit : (k v : ℕ) → 0 < k → v < 2 ^ k → v / 2 ^ (k - 1) < 2
out_bit k v h fits =
    let whole : k ≡ 1 + (k - 1) = omega arith in
    shr_lt {n = v} 1 (k - 1) (rw whole at fits)

-- one step by the bit c that goes out: the register is c * p + r
times : (d p v b c r : ℕ) → c * p + r ≡ v → r < p → b < 2 → c < 2 → bit_xor (v * 2 + b) (c * d) ≡ step_v d (p * 2) v b
times d p v b zero r e hr hb hc =
    ap (bit_xor (v * 2 + b)) (zero-mul d) ∙ xor_zero_r (v * 2 + b) ∙ sym (step_v_below d (p * 2) v b (omega arith))
times d p v b (suc zero) r e hr hb hc = ap (bit_xor (v * 2 + b)) (one-mul d) ∙ sym (step_v_reached d (p * 2) v b (omega arith))
times d p v b (suc (suc c)) r e hr hb hc = absurd (omega arith)

-- one step of a register v of k bits
pub step_v-times : (d k v b : ℕ) → 0 < k → v < 2 ^ k → b < 2 → bit_xor (v * 2 + b) (v / 2 ^ (k - 1) * d) ≡ step_v d (2 ^ k) v b
step_v-times d k v b h fits hb =
    let p = 2 ^ (k - 1) in
    times d p v b (v / p) (v % p) (split v (k - 1)) (mod-lt v (pow_pos (k - 1))) hb (out_bit k v h fits)
    ∙ ap (λ (q : ℕ). step_v d q v b) (sym (twice k h))
