-- The arms of the two tables of changes: the numbers of an arm are computed, and the last one stands for every k from 9 on, where all ten bits
-- of esb change. Assumes nothing.
use Prim.Native.Nat.{ℕ, ◌+◌, ◌-◌, ◌%◌, ◌^◌, ◌≤◌}
use mathlib.Core.Path.{◌≡◌, sym, ap, ◌∙◌}
use mathlib.Core.List.{List, ◌++◌}
use native.Mathlib.Omega.{arith}
use lib.ListN.{replicate}
use lib.Pow.{ones_split, ones_lt, low}
use Rattle.bits.specs.Bits.{bits_of}
use Rattle.bits.proofs.Numbers.{bits_of-mod}
use Rattle.formats.specs.Numbers.{Numbers, fg_of}
use Rattle.cyclic.specs.Remainder.{remainder}
use Rattle.quick_encoder.specs.declared.tail.Tail.{Tail}
use Rattle.quick_encoder.specs.Tail.{tail_bits, change_of, Change}

-- an arm for one k
pub arm : {F : Numbers} {k n : ℕ} {t : Tail} → k ≡ n → tail_bits t ≡ change_of F (2 ^ (n + 1) - 1) → Change F k t
arm {F} {k} {n} {t} e adds = record { adds = adds ∙ ap (λ (i : ℕ). change_of F (2 ^ (i + 1) - 1)) (sym e) }

-- from k = 9 on the lowest ten bits are ones
ten_ones : (k : ℕ) → 9 ≤ k → bits_of 10 (2 ^ (k + 1) - 1) ≡ bits_of 10 1023
ten_ones k h =
    let i = k - 9 in
    let e : k + 1 ≡ i + 10 = omega arith in
    sym (bits_of-mod 10 (2 ^ (k + 1) - 1))
    ∙ ap (bits_of 10) (ap (λ (j : ℕ). (2 ^ j - 1) % 2 ^ 10) e ∙ ap (λ (x : ℕ). x % 2 ^ 10) (ones_split i 10) ∙ low (2 ^ i - 1) 10 (ones_lt 10))

pub last_arm : {F : Numbers} {k : ℕ} {t : Tail} → 9 ≤ k → tail_bits t ≡ change_of F 1023 → Change F k t
unfolding change_of
last_arm {F} {k} h adds =
    record { adds = adds ∙ ap (λ (b : List ℕ). (replicate 15 0 ++ b) ++ remainder (fg_of F) (b ++ replicate 85 0)) (sym (ten_ones k h)) }
