-- The product of two polynomials acts as one after the other, and x^n+1 and x^2n+x^n+1 as sums of shifts.
-- Assumes nothing.
use Rattle.std.proofs.Common.{◌≡◌, ℕ, zero, suc, ◌+◌, ◌-◌, ◌<◌, Bool, true, false, eqb, List, [], ◌∷◌, ◌++◌, length, sym, refl, ap, ◌∙◌, ap₂, arith, lit<, length-append}
use lib.Dec.{eqb-suc-zero}
use Rattle.formats.specs.Polynomial.{product, times_bit, polynomial, coefficient_of, coefficients_below, one_if}
use Rattle.bits.proofs.AllBits.{all_bits-nil, all_bits-cons, all_bits_head, all_bits-tail}
use Rattle.cyclic.proofs.Lists.{Bits, zeros, length-zeros, bits_zeros, bits_sum, by_bit, length-sum}
use Rattle.cyclic.proofs.Space.{Space, times, pow, times-sum, times_none, zeros-front, zeros-back, pow-nil, run-append, times-append, times_leading, times-one, pow-times, times-add}

-- a bit times v has as many coefficients as v
pub length-times_bit : (c : ℕ) (v : List ℕ) → length (times_bit c v) ≡ length v
length-times_bit zero v = length-zeros (length v)
length-times_bit (suc c) v = refl

-- the number of coefficients of a product
pub length-product : (u v : List ℕ) (m : ℕ) → length v ≡ suc m → length (product u v) ≡ length u + m
unfolding product
length-product [] v m h = length-zeros (length v - 1) ∙ omega arith
length-product (c ∷ u) v m h =
    let front : length (times_bit c v ++ zeros (length u)) ≡ suc (length u + m) =
    length-append (times_bit c v) (zeros (length u))
    ∙ omega (arith, length-times_bit c v, length-zeros (length u)) in
    length-sum (times_bit c v ++ zeros (length u)) (0 ∷ product u v) (front ∙ ap suc (sym (length-product u v m h)))
    ∙ front ∙ omega arith

-- a product has bits only
pub bits_product : (u v : List ℕ) → Bits (product u v)
unfolding product
bits_product [] v = bits_zeros (length v - 1)
bits_product (c ∷ u) v = bits_sum (times_bit c v ++ zeros (length u)) (0 ∷ product u v)

module _ (M : Space) where
  open M use {Car, nil, add, X, unit, comm}

  -- zeros times e
  pub times-zeros : (k : ℕ) (e : Car) → times M (zeros k) e ≡ nil
  times-zeros k e = zeros-back M e nil k ∙ pow-nil M k

  -- a bit times v, times e
  pub times_bit-times : (v : List ℕ) (e : Car) (c : ℕ) → c < 2 → times M (times_bit c v) e ≡ times M (c ∷ []) (times M v e)
  times_bit-times v e =
      by_bit (λ (c : ℕ). times M (times_bit c v) e ≡ times M (c ∷ []) (times M v e))
      (times-zeros (length v) e ∙ sym (zeros-front M 1 [] (times M v e) ∙ times_none M (times M v e))) (sym (times-one M (times M v e)))

  -- a product times e is one factor times the other times e
  pub times-product : (u v : List ℕ) (m : ℕ) (e : Car) → Bits u → length v ≡ suc m → times M (product u v) e ≡ times M u (times M v e)
  unfolding product
  times-product [] v m e b h = times-zeros (length v - 1) e ∙ sym (times_none M (times M v e))
  times-product (c ∷ u) v m e b h =
      let low = zeros (length u) in
      let E = times M v e in
      let same : length (times_bit c v ++ low) ≡ suc (length (product u v)) =
      length-append (times_bit c v) low
      ∙ omega (arith, length-times_bit c v, length-zeros (length u), length-product u v m h) in
      let high : times M (times_bit c v ++ low) e ≡ pow M (length u) (times M (c ∷ []) E) =
      run-append M e nil (times_bit c v) low ∙ zeros-back M e (times M (times_bit c v) e) (length u)
      ∙ ap (pow M (length u)) (times_bit-times v e c (all_bits_head c u b)) in
      times-sum M (times_bit c v ++ low) (0 ∷ product u v) e same
      ∙ ap₂ add high (zeros-front M 1 (product u v) e ∙ times-product u v m e (all_bits-tail c u b) h)
      ∙ sym (times-append M (c ∷ []) u E)

  -- three rounds of v: v times x^2n+x^n+1 times e, for the n coefficients of v
  pub rounds : (v : List ℕ) (e : Car)
      → times M (v ++ (v ++ v)) e ≡ times M v (add (pow M (length v + length v) e) (add (pow M (length v) e) e))
  rounds v e =
      let n = length v in
      times-append M v (v ++ v) e
      ∙ ap₂ add
      (ap (λ (k : ℕ). pow M k (times M v e)) (length-append v v) ∙ pow-times M (n + n) v e)
      (times-append M v v e ∙ ap (λ (x : Car). add x (times M v e)) (pow-times M n v e) ∙ sym (times-add M v (pow M n e) e))
      ∙ sym (times-add M v (pow M (n + n) e) (add (pow M n e) e))

-- the coefficients of 1 below x^m
ends_in_one : (m : ℕ) → coefficients_below (suc m) (0 ∷ []) ≡ zeros m ++ (1 ∷ [])
unfolding coefficients_below coefficient_of
ends_in_one zero = refl
ends_in_one (suc m) =
    ap₂ {C = List ℕ} (λ x r. x ∷ r) (ap (λ (b : Bool). one_if b 0) (eqb-suc-zero m)) (ends_in_one m)

-- x^n+1 times e
pub two_terms : (M : Space) (n : ℕ) (e : M.Car) → 0 < n → times M (polynomial (n ∷ 0 ∷ [])) e ≡ M.add (pow M n e) e
unfolding polynomial
two_terms M zero e h = absurd (omega arith)
two_terms M (suc m) e h =
    ap (λ (v : List ℕ). times M (1 ∷ v) e) (ends_in_one m) ∙ times_leading M (zeros m ++ (1 ∷ [])) e
    ∙ ap₂ M.add
    (ap (λ (k : ℕ). pow M k e) (length-append (zeros m) (1 ∷ []) ∙ omega (arith, length-zeros m)))
    (zeros-front M m (1 ∷ []) e ∙ times-one M e)

-- the coefficient of a power is 0 or 1
bit_coefficient : (k : ℕ) (es : List ℕ) → coefficient_of k es < 2
unfolding coefficient_of
bit_coefficient k [] = lit< tt
bit_coefficient k (e ∷ es) = go (eqb k e) (bit_coefficient k es)
  where
    go : (b : Bool) → coefficient_of k es < 2 → one_if b (coefficient_of k es) < 2
    go true h = lit< tt
    go false h = h

-- so are all those below a power
bits_coefficients : (k : ℕ) (es : List ℕ) → Bits (coefficients_below k es)
unfolding coefficients_below
bits_coefficients zero es = all_bits-nil
bits_coefficients (suc k) es = all_bits-cons (coefficient_of k es) (coefficients_below k es) (bit_coefficient k es) (bits_coefficients k es)

-- so a polynomial by its exponents is made of bits
pub bits_polynomial : (es : List ℕ) → Bits (polynomial es)
unfolding polynomial
bits_polynomial [] = all_bits-nil
bits_polynomial (e ∷ es) = all_bits-cons 1 (coefficients_below e es) (lit< tt) (bits_coefficients e es)
