-- `conditions::thinned::thin` meets its contract. The loop's invariant: the first thinned bits are written, and `at` is the place of the last one.
-- Assumes nothing.
use mathlib.Core.Path.{◌≡◌}
use Prim.Native.Nat.{◌-◌, ◌*◌, ◌%◌}
use lib.ListN.{length}
use Rattle.bits.proofs.Writer.{Written}
use Rattle.conditions.specs.Conditions.{thinned_below}
use Rattle.conditions.proofs.thinned.thin.Given as goal

abbrev pub invariant-loop-slot : goal.invariant-loop-slot
invariant-loop-slot l =
    (l.n ≡ length l.b) × (l.at ≡ l.n - 1 - (l.n - l.slot-index) * l.step % l.n)
    × Written (thinned_below l.n l.step l.b) l.initial.slot-items l.slot-items (thinned_below (l.n - l.slot-index) l.step l.b) l.slot-index
