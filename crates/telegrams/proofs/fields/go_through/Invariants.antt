-- `telegrams::fields::go_through` meets its contract. The loop's invariant: the first bad word is that of the words not yet passed.
-- Assumes nothing.
use Rattle.bits.specs.Search.{first_of}
use Rattle.bits.proofs.Left.{Left}
use Rattle.telegrams.specs.Worded.{is_bad}
use Rattle.telegrams.proofs.fields.go_through.Given as goal

abbrev pub invariant-loop-at : goal.invariant-loop-at
invariant-loop-at l = Left (is_bad l.s) (first_of (is_bad l.s) 0 l.k) l.k l.at
