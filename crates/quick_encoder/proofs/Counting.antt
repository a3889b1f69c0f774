-- The bits in which a number differs from the next: the zeros at the end of the next, and the one before them. Assumes nothing.
use Prim.Native.Nat.{ℕ, zero, suc, ◌+◌, ◌-◌, ◌*◌, ◌/◌, ◌%◌, ◌^◌, ◌<◌}
use mathlib.Core.Path.{◌≡◌, refl, ap, ◌∙◌}
use native.Mathlib.Nat.{pow-suc, suc-add}
use native.Mathlib.Omega.{arith}
use lib.Bits.{bit_xor, xor_step, xor_self, differ}
use lib.Count.{count_trailing_zeros}
use lib.Pow.{pow_pos}

-- one more digit 1 behind t + 1 ones
more_ones : (t : ℕ) → (2 ^ (t + 1) - 1) * 2 + 1 ≡ 2 ^ (suc t + 1) - 1
more_ones t =
    let e : 2 ^ (suc t + 1) ≡ 2 ^ (t + 1) * 2 = ap (λ (n : ℕ). 2 ^ n) (suc-add t 1) ∙ pow-suc 2 (t + 1) in
    omega (arith, pow_pos (t + 1))

pub next_differs : (j n : ℕ) → n + 1 < 2 ^ j → bit_xor n (n + 1) ≡ 2 ^ (count_trailing_zeros j (n + 1) + 1) - 1
unfolding count_trailing_zeros
next_differs zero n h = absurd (omega arith)
next_differs (suc j) n h = xor_step n (n + 1) ∙ go (n % 2) refl (next_differs j (n / 2))
  where
    go : (r : ℕ) → n % 2 ≡ r → (n / 2 + 1 < 2 ^ j → bit_xor (n / 2) (n / 2 + 1) ≡ 2 ^ (count_trailing_zeros j (n / 2 + 1) + 1) - 1)
        → bit_xor (n / 2) ((n + 1) / 2) * 2 + differ (n % 2) ((n + 1) % 2) ≡ 2 ^ (count_trailing_zeros (suc j) (n + 1) + 1) - 1
    go zero e halves =
        let odd : (n + 1) % 2 ≡ 1 = omega arith in
        let half : (n + 1) / 2 ≡ n / 2 = omega arith in
        rw (e, odd, half, xor_self)
    go (suc zero) e halves =
        let even : (n + 1) % 2 ≡ 0 = omega arith in
        let half : (n + 1) / 2 ≡ n / 2 + 1 = omega arith in
        let below : n / 2 + 1 < 2 ^ j = omega (arith, pow-suc 2 j) in
        rw (e, even, half, halves below) (more_ones (count_trailing_zeros j (n / 2 + 1)))
    go (suc (suc r)) e halves = absurd (omega arith)
