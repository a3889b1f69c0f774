-- The remainder by any divisor: bits, as many as its degree, and with one more bit one more step; that of a sum, and with zeros in front.
-- Assumes nothing.
use Rattle.std.proofs.Common.{◌≡◌, ℕ, suc, ◌-◌, List, [], ◌∷◌, ◌++◌, length, drop, sym, ap, ◌∙◌, ap₂, arith, length-drop}
use Rattle.formats.specs.Polynomial.{sum}
use Rattle.cyclic.specs.Remainder.{step, remainder_from, remainder}
use Rattle.bits.proofs.AllBits.{all_bits_head, all_bits-tail, all_bits-append}
use Rattle.cyclic.proofs.Lists.{Bits, zeros, length-zeros, bits_zeros, bits_sum}
use Rattle.cyclic.proofs.Space.{times-sum, zeros-front}
use Rattle.cyclic.proofs.Registers.{Reg, Monic, By, remainder_is, one, bits_step, length-step}
use Rattle.cyclic.proofs.Quotients.{from_append}

-- a division from bits ends in bits
pub bits_from : (t s v : List ℕ) → Bits s → Bits v → Bits (remainder_from t s v)
unfolding remainder_from
bits_from t s [] hs hv = hs
bits_from t s (b ∷ v) hs hv = bits_from t (step t s b) v (bits_step t s b (all_bits_head b v hv) hs) (all_bits-tail b v hv)

-- as many as the divisor has
pub length_from : (t s v : List ℕ) → length s ≡ length t → length (remainder_from t s v) ≡ length t
unfolding remainder_from
length_from t s [] l = l
length_from t s (b ∷ v) l = length_from t (step t s b) v (length-step t s b l ∙ l)

-- a remainder is made of bits
pub remainder_bits : (d v : List ℕ) → Bits v → Bits (remainder d v)
unfolding remainder
remainder_bits d v h = bits_from (drop 1 d) (zeros (length d - 1)) v (bits_zeros (length d - 1)) h

-- as many as the degree of the divisor
pub remainder-length : (d v : List ℕ) → length (remainder d v) ≡ length d - 1
unfolding remainder
remainder-length d v =
    length_from (drop 1 d) (zeros (length d - 1)) v (length-zeros (length d - 1) ∙ sym (length-drop 1 d)) ∙ length-drop 1 d

pub length-remainder : {k : ℕ} {d : List ℕ} → Monic k d → (v : List ℕ) → length (remainder d v) ≡ k
length-remainder {d} m v = remainder-length d v ∙ omega (arith, m.size)

-- one more bit is one more step
pub remainder-next : (d v : List ℕ) (b : ℕ) → remainder d (v ++ (b ∷ [])) ≡ step (drop 1 d) (remainder d v) b
unfolding remainder remainder_from
remainder-next d v b = from_append (drop 1 d) (zeros (length d - 1)) v (b ∷ [])

module _ {k : ℕ} {d : List ℕ} (m : Monic (suc k) d) where
  -- the remainder of a sum is the sum of the remainders
  pub remainder-sum : (u v : List ℕ) → Bits u → Bits v → length u ≡ length v → remainder d (sum u v) ≡ sum (remainder d u) (remainder d v)
  remainder-sum u v hu hv l =
      remainder_is k d m (sum u v) (bits_sum u v) ∙ ap (λ (r : Reg (suc k)). r.of) (times-sum (By k d m) u v (one k) l)
      ∙ sym (ap₂ sum (remainder_is k d m u hu) (remainder_is k d m v hv))

  -- zeros in front change no remainder
  pub remainder-zeros : (j : ℕ) (v : List ℕ) → Bits v → remainder d (zeros j ++ v) ≡ remainder d v
  remainder-zeros j v h =
      remainder_is k d m (zeros j ++ v) (all_bits-append (zeros j) v (bits_zeros j) h)
      ∙ ap (λ (r : Reg (suc k)). r.of) (zeros-front (By k d m) j v (one k)) ∙ sym (remainder_is k d m v h)
