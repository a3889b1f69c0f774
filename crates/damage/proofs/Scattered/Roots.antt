-- The roots of g: by a polynomial h of degree 10 that divides f*g, the powers x, x^2 and so on up to x^14 (long) or x^16 (short) are roots of
-- g. What is computed for it. Assumes nothing.
use Prim.Native.Nat.{ℕ, suc, ◌-◌}
use mathlib.Core.Bool.{Bool}
use mathlib.Core.Path.{◌≡◌, refl}
use mathlib.Core.List.{List, [], ◌∷◌}
use lib.Dec.{T, lit<}
use Rattle.bits.specs.Bits.{all_bits, same}
use Rattle.formats.specs.declared.format.Format.{Format}
use Rattle.formats.specs.declared.format.Format.TheVariants.{Long, Short}
use Rattle.formats.specs.Polynomial.{sum, product, polynomial, coefficient_of, coefficients_below}
use Rattle.formats.specs.Numbers.{Numbers, long, short, numbers_of, g_of, f_of, fg_of}
use Rattle.words.proofs.Lists.{all_below}
use Rattle.cyclic.specs.Remainder.{step, remainder_from, remainder}
use Rattle.cyclic.proofs.Lists.{zeros}
use Rattle.cyclic.proofs.Registers.{Monic}
use Rattle.damage.specs.Scattered.{scatter_limit}
use Rattle.damage.proofs.Scattered.Powers.{spread}
use Rattle.damage.proofs.Scattered.Orders.{Inverse, reaches}

-- x^(i+1) is a root of g by h
unfoldable pub is_root : List ℕ → List ℕ → ℕ → Bool
is_root h g i = same (remainder h (spread i g)) (zeros 10)

-- what is computed for a format, with d powers of x
pub record Roots (F : Numbers) (d : ℕ) : Type 0 where
  pub h : List ℕ
  pub degree : Monic 10 h
  pub divides : remainder h (fg_of F) ≡ zeros 10
  -- they are roots
  pub roots : T (all_below (is_root h (g_of F)) d)
  -- of each number from 1 to n - 1 there is a multiple that is modulo n one of the exponents
  pub inverses : List (Inverse 9 h)
  pub reached : T (all_below (λ i. reaches F.n (suc i) inverses) (F.n - 1))

-- h of the long format
abbrev long_h : List ℕ
long_h = polynomial (10 ∷ 6 ∷ 5 ∷ 3 ∷ 2 ∷ 1 ∷ 0 ∷ [])

-- for each prime factor of 1023 an exponent
long_inverses : List (Inverse 9 long_h)
unfolding all_bits polynomial coefficient_of coefficients_below product sum step remainder_from remainder
long_inverses =
    record { exponent = 528; some = lit< tt; inverse = 1 ∷ 1 ∷ 1 ∷ 0 ∷ 1 ∷ 0 ∷ 1 ∷ 1 ∷ 1 ∷ 1 ∷ []; bits = tt; leaves_1 = refl }
    ∷ record { exponent = 682; some = lit< tt; inverse = 1 ∷ 0 ∷ 1 ∷ 0 ∷ 1 ∷ 1 ∷ []; bits = tt; leaves_1 = refl }
    ∷ record { exponent = 837; some = lit< tt; inverse = 1 ∷ 1 ∷ 0 ∷ 0 ∷ 1 ∷ 0 ∷ 0 ∷ 1 ∷ 0 ∷ 1 ∷ []; bits = tt; leaves_1 = refl } ∷ []

long_roots : Roots long (scatter_limit Long)
unfolding long_inverses all_bits same f_of g_of fg_of polynomial coefficient_of coefficients_below product sum step remainder_from remainder spread is_root all_below reaches
long_roots = record { h = long_h; degree = record { bits = tt; size = refl; leads = refl }; divides = refl; roots = tt; inverses = long_inverses; reached = tt }

-- h of the short format
abbrev short_h : List ℕ
short_h = polynomial (10 ∷ 6 ∷ 2 ∷ 1 ∷ 0 ∷ [])

-- for each prime factor of 341 an exponent
short_inverses : List (Inverse 9 short_h)
unfolding all_bits polynomial coefficient_of coefficients_below product sum step remainder_from remainder
short_inverses =
    record { exponent = 155; some = lit< tt; inverse = 1 ∷ 1 ∷ 0 ∷ 0 ∷ 0 ∷ 1 ∷ 0 ∷ 1 ∷ 0 ∷ 1 ∷ []; bits = tt; leaves_1 = refl }
    ∷ record { exponent = 187; some = lit< tt; inverse = 1 ∷ 0 ∷ 0 ∷ 0 ∷ 1 ∷ 1 ∷ 1 ∷ 0 ∷ []; bits = tt; leaves_1 = refl } ∷ []

short_roots : Roots short (scatter_limit Short)
unfolding short_inverses all_bits same f_of g_of fg_of polynomial coefficient_of coefficients_below product sum step remainder_from remainder spread is_root all_below reaches
short_roots = record { h = short_h; degree = record { bits = tt; size = refl; leads = refl }; divides = refl; roots = tt; inverses = short_inverses; reached = tt }

pub roots_of : (format : Format) → Roots (numbers_of format) (scatter_limit format)
roots_of Long = long_roots
roots_of Short = short_roots
