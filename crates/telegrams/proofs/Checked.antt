-- The check bits against the remainders: right check bits are the remainder g by f*g, and that is 0 by g and turn 0 by f.
-- Assumes nothing.
use Prim.Native.Nat.{ℕ, ◌-◌}
use mathlib.Core.Path.{◌≡◌, sym, ap, ◌∙◌}
use mathlib.Core.Bool.{◌&&◌}
use mathlib.Core.Logic.{◌↔◌}
use mathlib.Core.List.{List, ◌++◌}
use native.Mathlib.Omega.{arith}
use lib.Dec.{T}
use lib.ListN.{length, take, drop, length-drop, take-append-drop}
use Rattle.bits.specs.Bits.{all_bits}
use Rattle.bits.proofs.AllBits.{all_bits-take, all_bits-drop}
use Rattle.bits.proofs.And.{and_left, and_right, and_of}
use Rattle.bits.proofs.Equal.{same_equal, same_of}
use Rattle.formats.specs.Numbers.{Numbers, f_of, g_of, fg_of}
use Rattle.formats.proofs.Sizes.{Sizes}
use Rattle.cyclic.specs.Remainder.{remainder}
use Rattle.cyclic.specs.Check.{g_padded, check_bits, turn_remainder, divisible, unturned}
use Rattle.cyclic.proofs.Laws.{Facts, zeros, checks, two_factors, factors_two}
use Rattle.telegrams.specs.Fields.{checked}

-- 0 by g and turn 0 by f, as one remainder by f*g
pub factors_remainder : (F : Numbers) → Facts F → (b : List ℕ) → T (all_bits b)
    → T (divisible F b && unturned F b) ↔ (remainder (fg_of F) b ≡ g_padded F)
unfolding divisible unturned
factors_remainder F A b bits =
    let rg = remainder (g_of F) b in
    let rf = remainder (f_of F) b in (
      λ h. two_factors F A b bits
          (same_equal rg (zeros 75) (and_left (divisible F b) (unturned F b) h))
          (same_equal rf (turn_remainder F 0) (and_right (divisible F b) (unturned F b) h)),
      λ e. and_of (divisible F b) (unturned F b)
          (same_of rg (zeros 75) (factors_two F A b bits e).0)
          (same_of rf (turn_remainder F 0) (factors_two F A b bits e).1),
    )

module _ (F : Numbers) (A : Facts F) (S : Sizes F) (b : List ℕ) (bits : T (all_bits b)) (size : length b ≡ F.n) where
  pub checked-remainder : T (checked F b) ↔ (remainder (fg_of F) b ≡ g_padded F)
  unfolding checked
  checked-remainder =
      let i = F.n - 85 in
      let d = take i b in
      let c = drop i b in
      let last : length c ≡ 85 = length-drop i b ∙ omega (arith, S.n_is) in
      let law = checks F A d c (all_bits-take i b bits) (all_bits-drop i b bits) last in
      let whole : remainder (fg_of F) (take i b ++ drop i b) ≡ remainder (fg_of F) b = ap (remainder (fg_of F)) (take-append-drop i b) in
      (λ h. sym whole ∙ law.1 (same_equal c (check_bits F d) h), λ e. same_of c (check_bits F d) (law.0 (whole ∙ e)))

  pub checked_factors : T (checked F b) ↔ T (divisible F b && unturned F b)
  checked_factors =
      let one = checked-remainder in
      let two = factors_remainder F A b bits in
      (λ h. two.1 (one.0 h), λ h. one.1 (two.0 h))
