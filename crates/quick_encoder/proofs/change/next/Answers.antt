-- `quick_encoder::change::next` meets its contract: the change is that of the bits of esb that change. Assumes nothing.
use mathlib.Core.Path.{sym, ap, ◌∙◌}
use native.Mathlib.Omega.{arith}
use Rattle.formats.specs.Polynomial.{sum}
use Rattle.formats.specs.Numbers.{numbers_of}
use Rattle.quick_encoder.specs.Tail.{tail_bits, change_of}
use Rattle.quick_encoder.proofs.Counting.{next_differs}
use Rattle.quick_encoder.proofs.change.next.Goals as goal

pub returns : goal.returns
returns c =
    let a = c.args in
    c.bitxor.ensures
    ∙ ap (sum (tail_bits a.tail)) (c.change.ensures.adds ∙ ap (change_of (numbers_of a.format)) (sym (next_differs 16 a.esb (omega arith))))
