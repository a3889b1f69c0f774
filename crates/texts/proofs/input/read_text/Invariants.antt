-- `texts::input::read_text` meets its contract. The loop's invariant: the buffer holds the bits of some text, what was read so far. Assumes
-- nothing.
use Rattle.std.proofs.Common.{Ok}
use Rattle.refusals.specs.Outcome.{outcome}
use Rattle.texts.specs.Input.{OfSomeText}
use Rattle.texts.proofs.input.read_text.Given as goal

abbrev pub invariant-loop : goal.invariant-loop
invariant-loop g l = OfSomeText (outcome (Ok l.so_far.count) l.bits) 0 l.initial.bits
