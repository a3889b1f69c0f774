-- `captures::search_bits` meets its contract. The loop's invariant: read accepts at none of the places passed, and the output is as it was.
-- Assumes nothing.
use mathlib.Core.Path.{◌≡◌}
use Rattle.captures.proofs.Places.{Passed}
use Rattle.captures.proofs.search_bits.Given as goal

abbrev pub invariant-loop-place : goal.invariant-loop-place
invariant-loop-place l = (l.output ≡ l.initial.output) × Passed l.capture l.place
