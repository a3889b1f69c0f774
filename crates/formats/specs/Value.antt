-- A polynomial as a number: the coefficient of x^i is its binary digit of weight 2^i.
-- Assumes nothing.
use Rattle.std.specs.Prelude.{ℕ, ◌+◌, ◌*◌, ◌^◌, Bool, true, ◌&&◌, List, [], ◌∷◌, ltb}
use Rattle.std.specs.Int.Bits.{bit_xor}
use Rattle.formats.specs.declared.register.Register.{Register}

-- the two words of a register as one number
abbrev pub value_of : Register → ℕ
value_of r = r.high * 2 ^ 64 + r.low

-- a, plus the powers with these exponents
unfoldable pub powers : ℕ → List ℕ → ℕ
powers a [] = a
powers a (e ∷ es) = powers (bit_xor a (2 ^ e)) es

-- each element is below k
unfoldable pub all_below : ℕ → List ℕ → Bool
all_below k [] = true
all_below k (e ∷ es) = ltb e k && all_below k es
