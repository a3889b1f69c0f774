-- `quick_encoder::tail::tail_of` meets its contract: the settings and the highest 30 check bits are the digits of the first number, the other
-- check bits those of the second. Assumes nothing.
use mathlib.Core.Path.{◌≡◌, sym, ap, ap₂, ◌∙◌}
use mathlib.Core.List.{List, ◌++◌, append_assoc}
use Prim.Native.Nat.{ℕ, ◌+◌, ◌*◌, ◌/◌, ◌%◌, ◌^◌, ◌<◌}
use native.Mathlib.Omega.{arith}
use Rattle.bits.specs.Bits.{bits_of}
use Rattle.bits.proofs.Numbers.{bits_of-add, bits_of-mod, bits_of_join}
use Rattle.telegrams.specs.Telegram.{settings}
use Rattle.quick_encoder.proofs.Tails.{settings_digits}
use Rattle.quick_encoder.proofs.tail.tail_of.Goals as goal

-- the two numbers, as the code has them, where the check bits are high * 2^64 + low
first : ℕ → ℕ → ℕ → ℕ → ℕ
first B esb high low = 0x10000000000000 + 0x10000000000 * B + 0x40000000 * esb + 512 * high + low / 2 ^ 55

module _ (B esb high low : ℕ) (b-fits : B < 4096) (esb-fits : esb < 1024) (fits : high * 2 ^ 64 + low < 2 ^ 85) where
  first_digits : bits_of 55 (first B esb high low) ≡ settings B esb ++ bits_of 30 ((high * 2 ^ 64 + low) / 2 ^ 55)
  unfolding first
  first_digits =
      let front = (4096 + B) * 1024 + esb in
      let top = (high * 2 ^ 64 + low) / 2 ^ 55 in
      let e : first B esb high low ≡ front * 2 ^ 30 + top = omega arith in
      ap (bits_of 55) e ∙ bits_of_join 25 30 front top (omega arith) ∙ ap (λ (l : List ℕ). l ++ bits_of 30 top) (settings_digits B esb b-fits esb-fits)

  second_digits : bits_of 55 (low % 2 ^ 55) ≡ bits_of 55 (high * 2 ^ 64 + low)
  second_digits =
      let v = high * 2 ^ 64 + low in
      let e : low % 2 ^ 55 ≡ v % 2 ^ 55 = omega arith in
      ap (bits_of 55) e ∙ bits_of-mod 55 v

  both : bits_of 55 (first B esb high low) ++ bits_of 55 (low % 2 ^ 55) ≡ settings B esb ++ bits_of 85 (high * 2 ^ 64 + low)
  both =
      let v = high * 2 ^ 64 + low in
      ap₂ ◌++◌ first_digits second_digits ∙ append_assoc (settings B esb) (bits_of 30 (v / 2 ^ 55)) (bits_of 55 v)
      ∙ ap (λ (l : List ℕ). settings B esb ++ l) (sym (bits_of-add 30 55 v))

pub returns : goal.returns
unfolding first
returns c =
    let a = c.args in
    both a.pair.scrambling a.pair.shaping a.check.high a.check.low c.requires.pair_bound.0 c.requires.pair_bound.1 c.requires.check_bound
