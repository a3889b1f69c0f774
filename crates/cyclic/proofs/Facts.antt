-- The facts of the two formats that are computed; three of them document 01 asks for ("Check bits").
-- Assumes nothing.
use Rattle.std.proofs.Common.{◌≡◌, ℕ, zero, suc, ◌-◌, ◌<◌, Bool, true, not, ◌&&◌, T, List, [], ◌∷◌, ◌++◌, drop, replicate, refl, lit<}
use Rattle.bits.specs.Bits.{all_bits, same}
use Rattle.formats.specs.Polynomial.{sum, product, polynomial, coefficient_of, coefficients_below}
use Rattle.formats.specs.Numbers.{Numbers, long, short, f_of, g_of, fg_of}
use Rattle.cyclic.specs.Remainder.{step, remainder_from, remainder}
use Rattle.cyclic.specs.Check.{turn_remainder}
use Rattle.cyclic.proofs.Lists.{Bits, zeros}
use Rattle.cyclic.proofs.Registers.{Monic}

-- none of the next k registers from s on, each one step after the other, is o
unfoldable pub never : List ℕ → List ℕ → List ℕ → ℕ → Bool
never t o s zero = true
never t o s (suc k) = not (same s o) && never t o (step t s 0) k

-- what is computed for a format
pub record Facts (F : Numbers) : Type 0 where
  -- the degrees
  pub f_degree : Monic 10 (f_of F)
  pub g_degree : Monic 75 (g_of F)
  pub fg_degree : Monic 85 (fg_of F)
  -- more than one bit
  pub many : 1 < F.n
  -- f*g divides x^n+1 (document 01)
  pub round : remainder (fg_of F) (polynomial (F.n ∷ 0 ∷ [])) ≡ zeros 85
  -- f*g divides the polynomial whose n coefficients are all 1
  pub ones : remainder (fg_of F) (replicate F.n 1) ≡ zeros 85
  -- g has an inverse modulo f, so f and g have no common factor
  pub inverse : List ℕ
  pub inverse_bits : Bits inverse
  pub coprime : remainder (f_of F) (product inverse (g_of F)) ≡ zeros 9 ++ (1 ∷ [])
  -- x^s*g is not g modulo f for s from 1 to n-1: so the n remainders by f differ and none is 0 (document 01; `turn_unique`, `turn-never`)
  pub fresh : T (never (drop 1 (f_of F)) (turn_remainder F 0) (turn_remainder F 1) (F.n - 1))

-- the facts of the long format
pub long_facts : Facts long
unfolding all_bits f_of g_of fg_of polynomial coefficient_of coefficients_below product sum step remainder_from remainder same never turn_remainder
long_facts =
    record {
      f_degree = record { bits = tt; size = refl; leads = refl };
      g_degree = record { bits = tt; size = refl; leads = refl };
      fg_degree = record { bits = tt; size = refl; leads = refl };
      many = lit< tt;
      round = refl;
      ones = refl;
      inverse = 1 ∷ 1 ∷ 0 ∷ 1 ∷ 0 ∷ 1 ∷ 0 ∷ 0 ∷ 1 ∷ 1 ∷ [];
      inverse_bits = tt;
      coprime = refl;
      fresh = tt;
    }

-- and of the short one
pub short_facts : Facts short
unfolding all_bits f_of g_of fg_of polynomial coefficient_of coefficients_below product sum step remainder_from remainder same never turn_remainder
short_facts =
    record {
      f_degree = record { bits = tt; size = refl; leads = refl };
      g_degree = record { bits = tt; size = refl; leads = refl };
      fg_degree = record { bits = tt; size = refl; leads = refl };
      many = lit< tt;
      round = refl;
      ones = refl;
      inverse = 1 ∷ 1 ∷ 0 ∷ 1 ∷ 1 ∷ 0 ∷ 0 ∷ 0 ∷ 1 ∷ 1 ∷ [];
      inverse_bits = tt;
      coprime = refl;
      fresh = tt;
    }

-- long g divides short g times x^682+x^341+1 (document 01)
pub long_g_divides : remainder (g_of long) (product (g_of short) (polynomial (682 ∷ 341 ∷ 0 ∷ []))) ≡ zeros 75
unfolding g_of polynomial coefficient_of coefficients_below product sum step remainder_from remainder
long_g_divides = refl

-- long f divides x^682+x^341+1
pub long_f_divides : remainder (f_of long) (polynomial (682 ∷ 341 ∷ 0 ∷ [])) ≡ zeros 10
unfolding f_of polynomial coefficient_of coefficients_below sum step remainder_from remainder
long_f_divides = refl
