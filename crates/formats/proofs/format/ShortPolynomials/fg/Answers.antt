-- `formats::format::<Short as Polynomials>::fg` meets its contract, by computation. Assumes nothing.
use mathlib.Core.Path.{refl}
use Rattle.bits.specs.Bits.{number_from}
use Rattle.formats.specs.Numbers.{f_of, g_of, fg_of}
use Rattle.formats.specs.Polynomial.{polynomial, coefficients_below, coefficient_of, sum, product}
use Rattle.formats.proofs.format.ShortPolynomials.fg.Goals as goal

pub returns : goal.returns
unfolding number_from fg_of f_of g_of product sum polynomial coefficients_below coefficient_of
returns c = refl
