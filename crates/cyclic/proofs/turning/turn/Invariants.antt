-- `cyclic::turning::turn` meets its contract. The loop's invariant: the register has the remainder of turn s, and the search for the
-- turn is the search from s on. Assumes nothing.
use Rattle.cyclic.proofs.Machine.Turns.{Serves, Turning}
use Rattle.cyclic.proofs.turning.turn.Given as goal

abbrev pub invariant-loop-s : goal.invariant-loop-s
invariant-loop-s l = Serves l.fn.format l.divisor l.n l.initial.turned × Turning l.fn.format l.remainder l.turned l.s
