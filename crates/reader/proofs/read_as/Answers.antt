-- `reader::read_as_lem` meets its contract: refused by its length or a byte, or what `read_bits` answers. Assumes nothing.
use mathlib.Core.Path.{◌≡◌, sym, ap, ◌∙◌}
use mathlib.Core.List.{List}
use Prim.Native.Nat.{ℕ}
use native.Mathlib.Omega.{arith}
use lib.ListN.{length}
use Rattle.bits.specs.Bits.{all_bits}
use Rattle.bits.proofs.Tests.{holds}
use Rattle.formats.specs.declared.format.Format.{Format}
use Rattle.formats.specs.Numbers.{numbers_of, window_bits}
use Rattle.reader.specs.declared.Asked.{Asked}
use Rattle.reader.specs.Reads.{format_of, read_as, read_by}
use Rattle.reader.proofs.Steps.{length_refused, bits_refused}
use Rattle.reader.proofs.read_as.Goals as goal

-- a window is read as its length's format
read_is : (asked : Asked) (w out : List ℕ) (format : Format) → format ≡ format_of w → read_by asked w out ≡ read_as asked format w out
unfolding read_by
read_is asked w out format e = ap (λ (f : Format). read_as asked f w out) (sym e)

pub returns-then-window-window_bits : goal.returns-then-window-window_bits
returns-then-window-window_bits c =
    let a = c.args in
    read_is a.asked a.window.now a.output.now c.of_length-format.result c.of_length-format.ensures
    ∙ length_refused a.asked c.of_length-format.result a.window.now a.output.now
    (λ size. omega arith)

pub returns-then-not-all_bits : goal.returns-then-not-all_bits
returns-then-not-all_bits c =
    let size : length c.args.window.now ≡ window_bits (numbers_of c.of_length-format.result) = omega arith in
    let a = c.args in
    read_is a.asked a.window.now a.output.now c.of_length-format.result c.of_length-format.ensures
    ∙ bits_refused a.asked c.of_length-format.result a.window.now a.output.now (size)
    (sym c.all_bits.ensures ∙ c.if-not-all_bits.true)

pub invariant_of-read_bits : goal.invariant_of-read_bits
invariant_of-read_bits c =
    let size : length c.args.window.now ≡ window_bits (numbers_of c.of_length-format.result) = omega arith in
    let w = c.args.window.now in record {
      are_bits = holds (all_bits w) (sym c.all_bits.ensures ∙ c.if-not-all_bits.false);
      size = size;
    }

pub returns : goal.returns
returns c =
    let a = c.args in
    read_is a.asked a.window.now a.output.now c.of_length-format.result c.of_length-format.ensures
    ∙ c.read_bits.ensures
