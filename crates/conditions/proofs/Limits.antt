-- The limits of condition 2 are at most 10. Assumes nothing.
use mathlib.Core.Bool.{Bool, true, false, cond, ◌||◌}
use Prim.Native.Nat.{ℕ, ◌≤◌}
use native.Mathlib.Omega.{arith}
use lib.Dec.{eqb}
use Rattle.formats.specs.declared.format.Format.{Format}
use Rattle.formats.specs.declared.format.Format.TheVariants.{Long, Short}
use Rattle.conditions.specs.Conditions.{off_step_limit, limit_at}

either_most : (t : Bool) (format : Format) → cond t 2 (off_step_limit format) ≤ 10
either_most true format = omega arith
either_most false Long = omega arith
either_most false Short = omega arith

pub limit_most : (format : Format) (p : ℕ) → limit_at format p ≤ 10
unfolding limit_at
limit_most format p = either_most (eqb p 1 || eqb p 10) format
