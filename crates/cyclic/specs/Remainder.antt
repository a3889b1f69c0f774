-- The remainder of a polynomial by another over two elements, by long division: the coefficients come into a register
-- one by one, the highest power first, and the divisor is added wherever a 1 goes out at the top.
-- Assumes nothing.
use Rattle.std.specs.Prelude.{ℕ, zero, suc, ◌-◌, List, [], ◌∷◌, ◌++◌, length, drop, replicate}
use Rattle.formats.specs.Polynomial.{sum}

-- s, plus t where the bit that went out is 1
abbrev pub reduced : ℕ → List ℕ → List ℕ → List ℕ
reduced zero t s = s
reduced (suc c) t s = sum s t

-- the register s after one more bit b. The divisor is 1 ∷ t
unfoldable pub step : List ℕ → List ℕ → ℕ → List ℕ
step t [] b = []
step t (c ∷ s) b = reduced c t (s ++ (b ∷ []))

-- the register s after the bits of v
unfoldable pub remainder_from : List ℕ → List ℕ → List ℕ → List ℕ
remainder_from t s [] = s
remainder_from t s (b ∷ v) = remainder_from t (step t s b) v

-- the remainder of v by the polynomial d, whose first coefficient is 1
unfoldable pub remainder : List ℕ → List ℕ → List ℕ
remainder d v = remainder_from (drop 1 d) (replicate (length d - 1) 0) v
