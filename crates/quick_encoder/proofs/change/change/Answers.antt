-- `quick_encoder::change::change` meets its contract: the numbers of each arm are computed. Assumes nothing.
use mathlib.Core.Path.{refl}
use native.Mathlib.Omega.{arith}
use Rattle.bits.specs.Bits.{bits_of}
use Rattle.formats.specs.Polynomial.{sum, product, polynomial, coefficient_of, coefficients_below}
use Rattle.formats.specs.Numbers.{f_of, g_of, fg_of}
use Rattle.cyclic.specs.Remainder.{step, remainder_from, remainder}
use Rattle.quick_encoder.specs.Tail.{change_of}
use Rattle.quick_encoder.proofs.Changes.{arm, last_arm}
use Rattle.quick_encoder.proofs.change.change.Goals as goal

pub returns-in-0 : goal.returns-in-0
unfolding bits_of change_of f_of g_of fg_of polynomial coefficient_of coefficients_below product sum step remainder_from remainder
returns-in-0 c = rw c.in-Long.is (arm c.in-0.is refl)

pub returns-in-1 : goal.returns-in-1
unfolding bits_of change_of f_of g_of fg_of polynomial coefficient_of coefficients_below product sum step remainder_from remainder
returns-in-1 c = rw c.in-Long.is (arm c.in-1.is refl)

pub returns-in-2 : goal.returns-in-2
unfolding bits_of change_of f_of g_of fg_of polynomial coefficient_of coefficients_below product sum step remainder_from remainder
returns-in-2 c = rw c.in-Long.is (arm c.in-2.is refl)

pub returns-in-3 : goal.returns-in-3
unfolding bits_of change_of f_of g_of fg_of polynomial coefficient_of coefficients_below product sum step remainder_from remainder
returns-in-3 c = rw c.in-Long.is (arm c.in-3.is refl)

pub returns-in-4 : goal.returns-in-4
unfolding bits_of change_of f_of g_of fg_of polynomial coefficient_of coefficients_below product sum step remainder_from remainder
returns-in-4 c = rw c.in-Long.is (arm c.in-4.is refl)

pub returns-in-5 : goal.returns-in-5
unfolding bits_of change_of f_of g_of fg_of polynomial coefficient_of coefficients_below product sum step remainder_from remainder
returns-in-5 c = rw c.in-Long.is (arm c.in-5.is refl)

pub returns-in-6 : goal.returns-in-6
unfolding bits_of change_of f_of g_of fg_of polynomial coefficient_of coefficients_below product sum step remainder_from remainder
returns-in-6 c = rw c.in-Long.is (arm c.in-6.is refl)

pub returns-in-7 : goal.returns-in-7
unfolding bits_of change_of f_of g_of fg_of polynomial coefficient_of coefficients_below product sum step remainder_from remainder
returns-in-7 c = rw c.in-Long.is (arm c.in-7.is refl)

pub returns-in-8 : goal.returns-in-8
unfolding bits_of change_of f_of g_of fg_of polynomial coefficient_of coefficients_below product sum step remainder_from remainder
returns-in-8 c = rw c.in-Long.is (arm c.in-8.is refl)

pub returns-in_default : goal.returns-in_default
unfolding bits_of change_of f_of g_of fg_of polynomial coefficient_of coefficients_below product sum step remainder_from remainder
returns-in_default c = rw c.in-Long.is (last_arm (omega arith) refl)

pub returns-in-0-k : goal.returns-in-0-k
unfolding bits_of change_of f_of g_of fg_of polynomial coefficient_of coefficients_below product sum step remainder_from remainder
returns-in-0-k c = rw c.in-Short.is (arm c.in-0-k.is refl)

pub returns-in-1-k : goal.returns-in-1-k
unfolding bits_of change_of f_of g_of fg_of polynomial coefficient_of coefficients_below product sum step remainder_from remainder
returns-in-1-k c = rw c.in-Short.is (arm c.in-1-k.is refl)

pub returns-in-2-k : goal.returns-in-2-k
unfolding bits_of change_of f_of g_of fg_of polynomial coefficient_of coefficients_below product sum step remainder_from remainder
returns-in-2-k c = rw c.in-Short.is (arm c.in-2-k.is refl)

pub returns-in-3-k : goal.returns-in-3-k
unfolding bits_of change_of f_of g_of fg_of polynomial coefficient_of coefficients_below product sum step remainder_from remainder
returns-in-3-k c = rw c.in-Short.is (arm c.in-3-k.is refl)

pub returns-in-4-k : goal.returns-in-4-k
unfolding bits_of change_of f_of g_of fg_of polynomial coefficient_of coefficients_below product sum step remainder_from remainder
returns-in-4-k c = rw c.in-Short.is (arm c.in-4-k.is refl)

pub returns-in-5-k : goal.returns-in-5-k
unfolding bits_of change_of f_of g_of fg_of polynomial coefficient_of coefficients_below product sum step remainder_from remainder
returns-in-5-k c = rw c.in-Short.is (arm c.in-5-k.is refl)

pub returns-in-6-k : goal.returns-in-6-k
unfolding bits_of change_of f_of g_of fg_of polynomial coefficient_of coefficients_below product sum step remainder_from remainder
returns-in-6-k c = rw c.in-Short.is (arm c.in-6-k.is refl)

pub returns-in-7-k : goal.returns-in-7-k
unfolding bits_of change_of f_of g_of fg_of polynomial coefficient_of coefficients_below product sum step remainder_from remainder
returns-in-7-k c = rw c.in-Short.is (arm c.in-7-k.is refl)

pub returns-in-8-k : goal.returns-in-8-k
unfolding bits_of change_of f_of g_of fg_of polynomial coefficient_of coefficients_below product sum step remainder_from remainder
returns-in-8-k c = rw c.in-Short.is (arm c.in-8-k.is refl)

pub returns-in_default-k : goal.returns-in_default-k
unfolding bits_of change_of f_of g_of fg_of polynomial coefficient_of coefficients_below product sum step remainder_from remainder
returns-in_default-k c = rw c.in-Short.is (last_arm (omega arith) refl)
