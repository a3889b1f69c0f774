-- `encoder::search::first_pair` meets its contract. The invariants of the loops over B and over esb: the pairs before the next have failed, and
-- within one B its shaped data stands in front of the buffer. Assumes nothing.
use mathlib.Core.Path.{◌≡◌}
use Prim.Native.Nat.{◌+◌, ◌*◌, ◌-◌, ◌≤◌}
use lib.ListN.{length}
use Rattle.bits.proofs.Left.{Left}
use Rattle.refusals.specs.Refused.{pair_count}
use Rattle.encoder.specs.Encoding.{passes, first_pair}
use Rattle.encoder.proofs.Tried.{Trying}
use Rattle.encoder.proofs.search.first_pair.Given as goal

abbrev pub invariant-loop-shaping : goal.invariant-loop-shaping
invariant-loop-shaping l =
    Trying l.format l.block l.scrambling l.telegram × (l.shaping ≤ 1024) × Left (passes l.format l.block) (first_pair l.format l.block) pair_count (1024 * l.scrambling + l.shaping)

abbrev pub decreases-loop-shaping : goal.decreases-loop-shaping
decreases-loop-shaping l = 1024 - l.shaping

abbrev pub invariant-loop-scrambling : goal.invariant-loop-scrambling
invariant-loop-scrambling l =
    (length l.telegram ≡ 1023) × Left (passes l.format l.block) (first_pair l.format l.block) pair_count (1024 * l.scrambling)

abbrev pub decreases-loop-scrambling : goal.decreases-loop-scrambling
decreases-loop-scrambling l = 4096 - l.scrambling
