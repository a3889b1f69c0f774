-- `formats::format::<Short as Polynomials>::g` meets its contract, by computation. Assumes nothing.
use Rattle.bits.specs.Bits.{number_from}
use Rattle.formats.specs.Numbers.{g_of}
use Rattle.formats.specs.Polynomial.{polynomial, coefficients_below, coefficient_of}
use Rattle.formats.specs.Value.{powers, all_below}
use Rattle.formats.proofs.format.ShortPolynomials.g.Goals as goal

pub of-requires : goal.of-requires
unfolding all_below
of-requires c = tt

pub returns : goal.returns
unfolding powers number_from g_of polynomial coefficients_below coefficient_of
returns c = c.of.ensures
