-- `quick_encoder::search::first_shaping` meets its contract. The loop's invariant: no esb before the next one completes the shaped data, and the
-- tail is that of the next one. Assumes nothing.
use mathlib.Core.Path.{◌≡◌}
use Prim.Native.Nat.{◌-◌}
use lib.ListN.{length, take}
use Rattle.formats.specs.Numbers.{numbers_of}
use Rattle.quick_encoder.proofs.Completing.{Trying}
use Rattle.quick_encoder.proofs.search.first_shaping.Given as goal

abbrev pub invariant-loop-shaping : goal.invariant-loop-shaping
invariant-loop-shaping l =
    (length l.telegram ≡ length l.fn.telegram) × Trying l.format (take ((numbers_of l.format).n - 110) l.fn.telegram) l.fn.pair.scrambling l.fn.pair.shaping l.telegram l.tail l.shaping

abbrev pub decreases-loop-shaping : goal.decreases-loop-shaping
decreases-loop-shaping l = 1024 - l.shaping
