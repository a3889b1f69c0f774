-- Polynomials over two elements. A list of coefficients, 0 or 1, stands for one, the highest power first;
-- document 01, "Check bits", gives four of them as short lists of exponents.
-- Assumes nothing.
use Rattle.std.specs.Prelude.{ℕ, zero, suc, ◌+◌, ◌-◌, ◌%◌, Bool, true, false, List, [], ◌∷◌, ◌++◌, eqb, length, replicate}

abbrev pub one_if : Bool → ℕ → ℕ
one_if true other = 1
one_if false other = other

-- 1 where k is among the exponents, else 0
unfoldable pub coefficient_of : ℕ → List ℕ → ℕ
coefficient_of k [] = 0
coefficient_of k (e ∷ es) = one_if (eqb k e) (coefficient_of k es)

-- the coefficients of the powers below k, highest first
unfoldable pub coefficients_below : ℕ → List ℕ → List ℕ
coefficients_below zero es = []
coefficients_below (suc k) es = coefficient_of k es ∷ coefficients_below k es

-- the polynomial whose exponents are es, the highest first
unfoldable pub polynomial : List ℕ → List ℕ
polynomial [] = []
polynomial (e ∷ es) = 1 ∷ coefficients_below e es

-- the sum of two polynomials with as many coefficients
unfoldable pub sum : List ℕ → List ℕ → List ℕ
sum [] v = []
sum (a ∷ u) [] = []
sum (a ∷ u) (b ∷ v) = (a + b) % 2 ∷ sum u v

-- v, or as many zeros
abbrev pub times_bit : ℕ → List ℕ → List ℕ
times_bit zero v = replicate (length v) 0
times_bit (suc c) v = v

-- the product of two polynomials, by the highest coefficient of the first and the rest of it
unfoldable pub product : List ℕ → List ℕ → List ℕ
product [] v = replicate (length v - 1) 0
product (c ∷ u) v = sum (times_bit c v ++ replicate (length u) 0) (0 ∷ product u v)
