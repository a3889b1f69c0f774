-- `conditions::ring::word_by_bits` meets its contract. The loop's invariant: the number of the 11 bits is that of the bits passed, x, and then
-- the rest round the ring. Assumes nothing.
use mathlib.Core.Path.{◌≡◌}
use Prim.Native.Nat.{◌-◌, ◌^◌, ◌<◌}
use lib.ListN.{length}
use Rattle.bits.specs.Bits.{number_from, number_of, around}
use Rattle.conditions.proofs.ring.word_by_bits.Given as goal

abbrev pub invariant-loop-i : goal.invariant-loop-i
invariant-loop-i l =
    (l.x < 2 ^ l._i) × (l.at < length l.b) × (number_of (around 11 l.p l.b) ≡ number_from l.x (around (11 - l._i) l.at l.b))
