-- `texts::faults::good_bytes` meets its contract. The loop's invariant: the bytes passed are good, and left is the room that they leave.
-- Assumes nothing.
use Rattle.std.proofs.Common.{◌≡◌, ◌+◌, drop}
use Rattle.texts.specs.Faults.{good_bytes}
use Rattle.texts.proofs.faults.good_bytes.Given as goal

abbrev pub invariant-loop-i : goal.invariant-loop-i
invariant-loop-i l = l.i + good_bytes l.left (drop l.i l.text) ≡ good_bytes l.room l.text
