-- `conditions::run::up_to_invalid` meets its contract. The loop's invariant: the words from k on are valid, so that those before decide.
-- Assumes nothing.
use mathlib.Core.Path.{◌≡◌}
use Rattle.conditions.specs.UpToInvalid.{up_to_invalid}
use Rattle.conditions.proofs.run.up_to_invalid.Given as goal

abbrev pub invariant-loop-k : goal.invariant-loop-k
invariant-loop-k l = up_to_invalid l.count l.p l.b ≡ up_to_invalid l.k l.p l.b
