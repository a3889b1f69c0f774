-- A divisor as a number: its degree, and its coefficients below the highest power.
-- Assumes nothing.
use Rattle.std.proofs.Common.{◌≡◌, ℕ, zero, suc, ◌+◌, ◌-◌, ◌*◌, ◌/◌, ◌%◌, ◌^◌, ◌<◌, List, ◌∷◌, length, drop, replicate, sym, refl, ap, ◌∙◌, subst, ap₂, arith, length-drop}
use native.Mathlib.Nat.{zero-div}
use lib.Pow.{high}
use Rattle.bits.specs.Bits.{number_from, number_of, bits_of}
use Rattle.bits.proofs.AllBits.{all_bits-drop}
use Rattle.bits.proofs.Numbers.{number_of-cons, number_of_below, bits_of-suc, length-bits_of, bits_of-number_of}
use Rattle.formats.specs.declared.format.Format.{Format}
use Rattle.formats.specs.declared.format.Format.TheVariants.{Long, Short}
use Rattle.formats.specs.declared.register.Register.{Register}
use Rattle.formats.specs.Numbers.{numbers_of, f_of}
use Rattle.formats.specs.Polynomial.{polynomial, coefficients_below, coefficient_of}
use Rattle.formats.specs.Value.{value_of}
use Rattle.cyclic.specs.Remainder.{remainder, remainder_from}
use Rattle.cyclic.proofs.Registers.{Monic, leading}

-- the empty register
pub zero_bits : (k : ℕ) → bits_of k 0 ≡ replicate k 0
unfolding bits_of
zero_bits zero = refl
zero_bits (suc k) = ap₂ ◌∷◌ (ap (λ (x : ℕ). x % 2) (zero-div (2 ^ k))) (zero_bits k)

-- a division from the empty register on, by a divisor x of degree k
empty_start : (k x : ℕ) {z : ℕ} → z ≡ 0 → (v : List ℕ) → remainder_from (bits_of k x) (bits_of k z) v ≡ remainder (1 ∷ bits_of k x) v
unfolding remainder
empty_start k x e v =
    let size : k ≡ length (1 ∷ bits_of k x) - 1 = omega (arith, length-bits_of k x) in
    ap (λ (s : List ℕ). remainder_from (bits_of k x) s v) (ap (bits_of k) e ∙ zero_bits k ∙ ap (λ (j : ℕ). replicate j 0) size)

-- and the number that it leaves
pub empty-number : (k x : ℕ) (v : List ℕ) {y z : ℕ} → z ≡ 0 → y ≡ number_of (remainder_from (bits_of k x) (bits_of k z) v)
    → y ≡ number_of (remainder (1 ∷ bits_of k x) v)
empty-number k x v e h = h ∙ ap number_of (empty_start k x e v)

-- The number of a polynomial d of degree k: its digits below 2^k are d's other coefficients, and that of 2^k is 1.
module _ {k : ℕ} {d : List ℕ} (m : Monic k d) where
  pub length_rest : length (drop 1 d) ≡ k
  length_rest = length-drop 1 d ∙ omega (arith, m.size)

  pub divisor_rest : bits_of k (number_of d) ≡ drop 1 d
  divisor_rest = ap (drop 1) (sym (bits_of-suc k (number_of d)) ∙ bits_of-number_of (suc k) d m.bits m.size)

  divisor_top : number_of d / 2 ^ k ≡ 1
  divisor_top =
      let t = drop 1 d in
      let below : number_of t < 2 ^ k = subst (λ (j : ℕ). number_of t < 2 ^ j) length_rest (number_of_below t (all_bits-drop 1 d m.bits)) in
      ap (λ (x : ℕ). x / 2 ^ k) (ap number_of (leading m) ∙ number_of-cons 1 t ∙ ap (λ (j : ℕ). 1 * 2 ^ j + number_of t) length_rest) ∙ high 1 k below

-- The polynomial d, of degree k, held as the number x.
module _ {k : ℕ} {d : List ℕ} {x : ℕ} (m : Monic k d) (e : x ≡ number_of d) where
  pub divisor_degree : x / 2 ^ k ≡ 1
  divisor_degree = ap (λ (y : ℕ). y / 2 ^ k) e ∙ divisor_top m

  -- its coefficients, from the number
  divisor_bits : bits_of k x ≡ drop 1 d
  divisor_bits = ap (bits_of k) e ∙ divisor_rest m

  -- a division by it from the register s on, and from the empty register on
  pub divided_from : (s v : List ℕ) → number_of (remainder_from (bits_of k x) s v) ≡ number_of (remainder_from (drop 1 d) s v)
  divided_from s v = ap (λ (t : List ℕ). number_of (remainder_from t s v)) divisor_bits

  pub divided : (v : List ℕ) → number_of (remainder (1 ∷ bits_of k x) v) ≡ number_of (remainder d v)
  divided v = ap (λ (p : List ℕ). number_of (remainder p v)) (ap (λ (t : List ℕ). 1 ∷ t) divisor_bits ∙ sym (leading m))

-- f fits the low word of a register
pub f_low : (x : Format) (r : Register) → value_of r ≡ number_of (f_of (numbers_of x)) → r.low ≡ number_of (f_of (numbers_of x))
unfolding f_of polynomial coefficients_below coefficient_of number_from
f_low Long r e = omega arith
f_low Short r e = omega arith
