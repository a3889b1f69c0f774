-- `quick_encoder::search::pair_from` meets its contract. The loop's invariant: no pair before the next one is proper. Assumes nothing.
use mathlib.Core.Path.{◌≡◌}
use Prim.Native.Nat.{◌+◌, ◌-◌, ◌*◌, ◌<◌}
use lib.ListN.{length}
use Rattle.bits.proofs.Left.{Left}
use Rattle.refusals.specs.Refused.{pair_count}
use Rattle.encoder.specs.Encoding.{passes}
use Rattle.quick_encoder.specs.PairFrom.{pair_from}
use Rattle.quick_encoder.proofs.search.pair_from.Given as goal

abbrev pub invariant-loop-scrambling : goal.invariant-loop-scrambling
invariant-loop-scrambling l =
    (length l.telegram ≡ 1023) × (l.shaping < 1024) × Left (passes l.fn.format l.block) (pair_from l.fn.format l.block (1024 * l.fn.pair.scrambling + l.fn.pair.shaping)) pair_count (1024 * l.scrambling + l.shaping)

abbrev pub decreases-loop-scrambling : goal.decreases-loop-scrambling
decreases-loop-scrambling l = 4096 - l.scrambling
