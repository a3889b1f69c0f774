-- `conditions::run::none_over` meets its contract. The loop's invariant: no run over the limit begins at one of the i words passed.
-- Assumes nothing.
use mathlib.Core.Path.{◌≡◌}
use Prim.Native.Nat.{◌+◌, ◌-◌, ◌<◌}
use lib.Dec.{leb}
use lib.ListN.{length}
use Rattle.conditions.specs.Runs.{valid_words, longest}
use Rattle.conditions.proofs.Sought.{Sought}
use Rattle.conditions.proofs.run.none_over.Given as goal

abbrev pub invariant-loop-i : goal.invariant-loop-i
invariant-loop-i l =
    (l.span ≡ l.limit + 1) × (l.at < length l.b) × Sought (leb (longest (valid_words (l.starts + l.limit) l.p l.b)) l.limit) l.starts l.limit l.i l.at l.b

abbrev pub decreases-loop-i : goal.decreases-loop-i
decreases-loop-i l = l.starts - l.i
