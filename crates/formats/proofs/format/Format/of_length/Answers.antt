-- `formats::format::Format::of_length` meets its contract. Assumes nothing.
use borrow.Author.Tests.{eq-eqb, ne_eqb}
use Rattle.formats.specs.Numbers.{format_for}
use Rattle.formats.proofs.format.Format.of_length.Goals as goal

pub returns-then-size-short : goal.returns-then-size-short
unfolding format_for
returns-then-size-short c = simp (eq-eqb _ _ c.if-size-short.true)

pub returns-else-size-short : goal.returns-else-size-short
unfolding format_for
returns-else-size-short c = simp (ne_eqb _ _ c.if-size-short.false)
