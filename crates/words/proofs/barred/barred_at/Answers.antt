-- `words::barred::barred_at` meets its contract: each arm has its two entries, and the last one stands for every part past them. Assumes nothing.
use mathlib.Core.Path.{sym}
use Prim.Native.Nat.{◌≤◌}
use native.Mathlib.Omega.{arith}
use lib.ListN.{get_or-eq_default}
use Rattle.words.specs.BarredOf64.{group250, group20}
use Rattle.words.proofs.barred.barred_at.Goals as goal

pub returns-in_default : goal.returns-in_default
returns-in_default c =
    let past : 32 ≤ c.args.k = omega arith in
    (sym (get_or-eq_default group250 0 past), sym (get_or-eq_default group20 0 past))
