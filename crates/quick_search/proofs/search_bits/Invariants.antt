-- `quick_search::search_bits` meets its contract. The loop's invariant: neither walk has passed a place at which its format is accepted, and the
-- output is as it was. Assumes nothing.
-- ---- a step of the long walk
-- ---- a step of the short walk
-- ---- both walks at the end
use mathlib.Core.Path.{◌≡◌}
use Prim.Native.Nat.{◌+◌, ◌-◌}
use lib.ListN.{length}
use Rattle.formats.specs.declared.format.Format.TheVariants.{Long, Short}
use Rattle.quick_search.proofs.Passing.{Stands}
use Rattle.quick_search.proofs.search_bits.Given as goal

abbrev pub invariant-loop-long : goal.invariant-loop-long
invariant-loop-long l =
    (l.output ≡ l.initial.output) × Stands Long l.capture l.long.place l.long.refused × Stands Short l.capture l.short.place l.short.refused

abbrev pub decreases-loop-long : goal.decreases-loop-long
decreases-loop-long l =
    (length l.capture - l.long.place) + (length l.capture - l.short.place)
