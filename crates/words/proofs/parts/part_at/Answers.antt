-- `words::parts::part_at` meets its contract: each arm has its two entries, and the last one stands for every part past them. Assumes nothing.
use mathlib.Core.Path.{sym}
use Prim.Native.Nat.{◌≤◌}
use native.Mathlib.Omega.{arith}
use lib.ListN.{get_or-eq_default}
use Rattle.words.specs.PartsOf64.{present, before}
use Rattle.words.proofs.parts.part_at.Goals as goal

pub returns-in_default : goal.returns-in_default
returns-in_default c =
    let past : 31 ≤ c.args.k = omega arith in
    (sym (get_or-eq_default present 0 past), sym (get_or-eq_default before 1024 past))
