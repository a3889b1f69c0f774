-- `texts::reading::take_text` meets its contract. The loop's invariant: the buffer holds what the bytes passed give. Assumes nothing.
use Rattle.std.proofs.Common.{◌≡◌, take, Ok}
use Rattle.refusals.specs.Outcome.{outcome}
use Rattle.texts.specs.Reading.{taken_into}
use Rattle.texts.proofs.reading.take_text.Given as goal

abbrev pub invariant-loop-byte : goal.invariant-loop-byte
invariant-loop-byte l = outcome (Ok l.held) l.bits ≡ taken_into l.initial.bits l.count (take l.byte-index l.text)
