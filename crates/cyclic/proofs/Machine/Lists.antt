-- Back from numbers to lists: a register that is the number of a remainder or of check bits has these as its bits.
-- Assumes nothing.
use Rattle.std.proofs.Common.{◌≡◌, ℕ, ◌-◌, ◌^◌, ◌<◌, T, List, ◌++◌, length, drop, replicate, sym, refl, ap, ◌∙◌, ap₂, subst₂}
use native.Mathlib.Nat.{zero-mod}
use lib.Bits.{bit_xor}
use Rattle.bits.specs.Bits.{all_bits, number_from, number_of, bits_of}
use Rattle.bits.proofs.Numbers.{number_of_below, number_of-bits_of, bits_of-number_of}
use Rattle.formats.specs.declared.format.Format.{Format}
use Rattle.formats.specs.declared.format.Format.TheVariants.{Long, Short}
use Rattle.formats.specs.Numbers.{numbers_of, g_of}
use Rattle.formats.specs.Polynomial.{polynomial, coefficients_below, coefficient_of, sum}
use Rattle.cyclic.specs.Check.{g_padded, check_bits}
use Rattle.cyclic.specs.Remainder.{remainder, remainder_from}
use Rattle.cyclic.proofs.Lists.{bits_sum, length-sum}
use Rattle.cyclic.proofs.Registers.{Monic}
use Rattle.cyclic.proofs.Quotients.{from_append}
use Rattle.cyclic.proofs.Remainders.{remainder_bits, length-remainder}
use Rattle.cyclic.proofs.Formats.{facts_of}
use Rattle.cyclic.proofs.Laws.{bits_padded, length_padded, bits_check_bits, length-check_bits}
use Rattle.cyclic.proofs.Machine.Divisors.{zero_bits}
use Rattle.cyclic.proofs.Machine.Sums.{value_sum}

pub zeros_number : (k : ℕ) → number_of (replicate k 0) ≡ 0
zeros_number k = ap number_of (sym (zero_bits k)) ∙ number_of-bits_of k 0 ∙ zero-mod (2 ^ k)

-- two lists of k bits with one number are the same
pub one_list : (k : ℕ) (u v : List ℕ) → T (all_bits u) → T (all_bits v) → length u ≡ k → length v ≡ k → number_of u ≡ number_of v → u ≡ v
one_list k u v hu hv eu ev e = sym (bits_of-number_of k u hu eu) ∙ ap (bits_of k) e ∙ bits_of-number_of k v hv ev

-- A divisor d of degree k.
module _ {k : ℕ} {d : List ℕ} (m : Monic k d) where
  -- a remainder is the bits of its number
  module _ (v : List ℕ) (hv : T (all_bits v)) where
    pub remainder_list : {y : ℕ} → y ≡ number_of (remainder d v) → bits_of k y ≡ remainder d v
    remainder_list e = ap (bits_of k) e ∙ bits_of-number_of k (remainder d v) (remainder_bits d v hv) (length-remainder m v)

    -- it is 0 where its number is, and only there
    pub remainder-zero : {y : ℕ} → y ≡ number_of (remainder d v) → y ≡ 0 → remainder d v ≡ replicate k 0
    remainder-zero e z = sym (remainder_list e) ∙ ap (bits_of k) z ∙ zero_bits k

    pub zero-remainder : {y : ℕ} → y ≡ number_of (remainder d v) → remainder d v ≡ replicate k 0 → y ≡ 0
    zero-remainder e z = e ∙ ap number_of z ∙ zeros_number k

-- the remainder of bits after bits
pub remainder-append : (d u v : List ℕ) → remainder d (u ++ v) ≡ remainder_from (drop 1 d) (remainder d u) v
unfolding remainder
remainder-append d u v = from_append (drop 1 d) (replicate (length d - 1) 0) u v

-- g with 85 coefficients has g's number
pub padded_number : (x : Format) → number_of (g_padded (numbers_of x)) ≡ number_of (g_of (numbers_of x))
unfolding g_padded g_of polynomial coefficients_below coefficient_of number_from
padded_number Long = refl
padded_number Short = refl

-- Check bits: r is the register of 85 bits from which they are made.
module _ (x : Format) (r : List ℕ) (hr : T (all_bits r)) (size : length r ≡ 85) where
  pub length-checked : length (sum r (g_padded (numbers_of x))) ≡ 85
  length-checked = length-sum r (g_padded (numbers_of x)) (size ∙ sym (length_padded (numbers_of x) (facts_of x))) ∙ size

  -- their number, from that of the register and that of g
  pub checked_number : {y z : ℕ} → y ≡ number_of r → z ≡ number_of (g_of (numbers_of x)) → bit_xor y z ≡ number_of (sum r (g_padded (numbers_of x)))
  checked_number e e' =
      let F = numbers_of x in
      let A = facts_of x in
      ap₂ bit_xor e (e' ∙ sym (padded_number x)) ∙ sym (value_sum r (g_padded F) hr (bits_padded F A) (size ∙ sym (length_padded F A)))

  pub checked_fits : {y : ℕ} → y ≡ number_of (sum r (g_padded (numbers_of x))) → y < 2 ^ 85
  checked_fits e =
      subst₂ (λ (y k : ℕ). y < 2 ^ k) (sym e) length-checked (number_of_below (sum r (g_padded (numbers_of x))) (bits_sum r (g_padded (numbers_of x))))

-- the check bits of d are the bits of their number
pub check_list : (x : Format) (d : List ℕ) → {y : ℕ} → y ≡ number_of (check_bits (numbers_of x) d) → bits_of 85 y ≡ check_bits (numbers_of x) d
check_list x d e =
    let F = numbers_of x in
    let A = facts_of x in
    ap (bits_of 85) e ∙ bits_of-number_of 85 (check_bits F d) (bits_check_bits F A d) (length-check_bits F A d)
