-- The two formats and their fixed numbers (document 01, "What the bench takes in" and "Check bits").
-- Assumes nothing.
use Rattle.std.specs.Prelude.{ℕ, ◌+◌, ◌/◌, cond, List, [], ◌∷◌, eqb}
use Rattle.formats.specs.declared.format.Format.{Format}
use Rattle.formats.specs.declared.format.Format.TheVariants.{Long, Short}
use Rattle.formats.specs.Polynomial.{polynomial, product}

-- user bits m, telegram n, words, extra r; f and g by their exponents
pub record Numbers : Type 0 where
  pub m : ℕ
  pub n : ℕ
  pub words : ℕ
  pub r : ℕ
  pub f_exponents : List ℕ
  pub g_exponents : List ℕ

abbrev pub long : Numbers
long =
    record {
      m = 830;
      n = 1023;
      words = 93;
      r = 77;
      f_exponents = 10 ∷ 9 ∷ 7 ∷ 6 ∷ 4 ∷ 3 ∷ 2 ∷ 1 ∷ 0 ∷ [];
      g_exponents = 75 ∷ 73 ∷ 72 ∷ 71 ∷ 67 ∷ 62 ∷ 61 ∷ 60 ∷ 57 ∷ 56 ∷ 55 ∷ 52 ∷ 51 ∷ 49 ∷ 46 ∷ 45 ∷ 44 ∷ 43 ∷ 41 ∷ 37 ∷ 35 ∷ 34 ∷ 33 ∷ 31 ∷ 30 ∷ 28 ∷ 26 ∷ 24 ∷ 21 ∷ 17 ∷ 16 ∷ 15 ∷ 13 ∷ 12 ∷ 11 ∷ 9 ∷ 4 ∷ 1 ∷ 0 ∷ [];
    }

abbrev pub short : Numbers
short =
    record {
      m = 210;
      n = 341;
      words = 31;
      r = 121;
      f_exponents = 10 ∷ 8 ∷ 7 ∷ 5 ∷ 3 ∷ 1 ∷ 0 ∷ [];
      g_exponents = 75 ∷ 72 ∷ 71 ∷ 70 ∷ 69 ∷ 68 ∷ 66 ∷ 65 ∷ 64 ∷ 63 ∷ 60 ∷ 55 ∷ 54 ∷ 49 ∷ 47 ∷ 46 ∷ 45 ∷ 44 ∷ 43 ∷ 42 ∷ 41 ∷ 39 ∷ 38 ∷ 37 ∷ 36 ∷ 34 ∷ 33 ∷ 32 ∷ 31 ∷ 30 ∷ 27 ∷ 25 ∷ 22 ∷ 19 ∷ 17 ∷ 13 ∷ 12 ∷ 11 ∷ 10 ∷ 6 ∷ 3 ∷ 1 ∷ 0 ∷ [];
    }

abbrev pub numbers_of : Format → Numbers
numbers_of Long = long
numbers_of Short = short

-- the format that an input's length picks, of a kind of input that has shortSize in the short format: short where it is that, else long;
-- a length that is neither's is refused (document 01, refusal 1)
unfoldable pub format_for : ℕ → ℕ → Format
format_for shortSize size = cond (eqb size shortSize) Short Long

-- the blocks of ten user bits, and the bits of a window
abbrev pub blocks : Numbers → ℕ
blocks F = F.m / 10

abbrev pub window_bits : Numbers → ℕ
window_bits F = F.n + F.r

-- f, g and f*g by their coefficients
unfoldable pub f_of : Numbers → List ℕ
f_of F = polynomial F.f_exponents

unfoldable pub g_of : Numbers → List ℕ
g_of F = polynomial F.g_exponents

unfoldable pub fg_of : Numbers → List ℕ
fg_of F = product (f_of F) (g_of F)
