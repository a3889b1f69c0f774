-- The kind of a word by its bits in the two groups: a computed test over the 2,048 words compares the bits of each group with the group.
-- Assumes nothing.
use mathlib.Core.Path.{◌≡◌, refl, ap, sym, ◌∙◌}
use mathlib.Core.Bool.{Bool, true, false}
use mathlib.Core.List.{List}
use Prim.Native.Nat.{ℕ, ◌/◌, ◌%◌, ◌≤◌}
use native.Mathlib.Omega.{arith}
use lib.Dec.{T, eqb, ltb, ltb→lt}
use lib.ListN.{length, get_or, get_or-eq_default}
use lib.Pow.{shr_le}
use borrow.Author.Tests.{ltb-true, ltb-false, le-ltb}
use Rattle.bits.proofs.Tests.{is_false, is_true}
use Rattle.words.specs.BarredOf64.{group250, group20}
use Rattle.words.specs.Words.{in_group250, barred20, among, in_group20}
use Rattle.words.proofs.Lists.{every, all_below, below_at}
use Rattle.words.proofs.Groups.{at_member}
use Rattle.words.proofs.Ranks.{bit_at}

abbrev alike : Bool → Bool → Bool
alike true b = b
alike false true = false
alike false false = true

alike_same : (a b : Bool) → T (alike a b) → a ≡ b
alike_same true b t = sym (is_true b t)
alike_same false true t = absurd t
alike_same false false t = refl

-- ---- bits that are those of a group

module _ (group : ℕ → Bool) (bits : List ℕ) where
  -- the bit tells whether the word is in the group
  agrees : ℕ → Bool
  agrees w = alike (eqb (bit_at (get_or bits (w / 64) 0) w) 1) (group w)

  module _ (size : length bits ≡ 32) (computed : T (all_below agrees 2048)) (wide : (w : ℕ) → 2048 ≤ w → group w ≡ false) where
    bit_told : (w x : ℕ) → x ≡ get_or bits (w / 64) 0 → eqb (bit_at x w) 1 ≡ group w
    unfolding agrees
    bit_told w x p = go (ltb w 2048) refl
      where
        go : (b : Bool) → ltb w 2048 ≡ b → eqb (bit_at x w) 1 ≡ group w
        go true l = rw p (alike_same (eqb (bit_at (get_or bits (w / 64) 0) w) 1) (group w) (below_at agrees 2048 computed w (ltb-true w 2048 l)))
        go false l =
            let far : 2048 ≤ w = ltb-false w 2048 l in
            let past : length bits ≤ w / 64 = omega arith in
            let none : x ≡ 0 = p ∙ get_or-eq_default bits 0 past in
            let bit : bit_at x w ≡ 0 = omega (arith, shr_le x (w % 64)) in
            ap (λ (b : ℕ). eqb b 1) bit ∙ sym (wide w far)

-- ---- the two groups

agrees250 : T (all_below (agrees in_group250 group250) 2048)
unfolding all_below agrees in_group250
agrees250 = tt

wide250 : (w : ℕ) → 2048 ≤ w → in_group250 w ≡ false
unfolding in_group250
wide250 w h = rw (le-ltb w 2048 h)

pub told250 : (w x : ℕ) → x ≡ get_or group250 (w / 64) 0 → eqb (bit_at x w) 1 ≡ in_group250 w
told250 = bit_told in_group250 group250 refl agrees250 wide250

agrees20 : T (all_below (agrees in_group20 group20) 2048)
unfolding all_below agrees in_group20 among barred20
agrees20 = tt

abbrev eleven_bits : ℕ → Bool
eleven_bits x = ltb x 2048

barred_bits : T (every eleven_bits barred20)
unfolding every barred20
barred_bits = tt

wide20 : (w : ℕ) → 2048 ≤ w → in_group20 w ≡ false
unfolding in_group20
wide20 w h =
    is_false (among w barred20) (λ t. omega (arith, ltb→lt w 2048 (at_member eleven_bits w barred20 barred_bits (is_true (among w barred20) t))))

pub told20 : (w x : ℕ) → x ≡ get_or group20 (w / 64) 0 → eqb (bit_at x w) 1 ≡ in_group20 w
told20 = bit_told in_group20 group20 refl agrees20 wide20
