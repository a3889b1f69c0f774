-- `texts::writing::write_text` meets its contract. The loop's invariant: the characters of the bits passed are written.
-- Assumes nothing.
use Rattle.std.proofs.Common.{◌≡◌, ◌++◌, take, drop}
use Rattle.texts.specs.Writing.{text_of}
use Rattle.texts.proofs.writing.write_text.Given as goal

abbrev pub invariant-loop-i : goal.invariant-loop-i
invariant-loop-i l = l.text ≡ text_of (take l.i l.bits) ++ drop l.i l.initial.text
