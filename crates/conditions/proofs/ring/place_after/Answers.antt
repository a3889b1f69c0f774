-- `conditions::ring::place_after` meets its contract. Assumes nothing.
use mathlib.Core.Path.{sym}
use Prim.Native.Nat.{◌+◌}
use native.Mathlib.Nat.{mod-eq_of_lt}
use native.Mathlib.Omega.{arith}
use Rattle.conditions.proofs.Round.{mod_past}
use Rattle.conditions.proofs.ring.place_after.Goals as goal

pub returns-then-p-n : goal.returns-then-p-n
returns-then-p-n c = sym (mod-eq_of_lt (omega arith))

pub returns-else-p-n : goal.returns-else-p-n
returns-else-p-n c =
    let a = c.args in
    omega (arith, mod_past (a.p + a.k) a.n (omega arith) (omega arith))
