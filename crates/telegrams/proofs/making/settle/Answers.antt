-- `telegrams::making::settle` meets its contract: the settings are written after the first n - 110 bits, and the check bits are those of both.
-- Assumes nothing.
use mathlib.Core.Path.{sym, ap, ◌∙◌}
use Prim.Native.Nat.{◌≤◌}
use native.Mathlib.Omega.{arith}
use lib.ListN.{length-drop}
use lib.Seq.{length-take-le}
use Rattle.formats.specs.Numbers.{numbers_of}
use Rattle.formats.proofs.Sizes.{sizes_of}
use Rattle.cyclic.specs.Check.{check_bits}
use Rattle.cyclic.proofs.Machine.Lists.{check_list}
use Rattle.telegrams.proofs.Buffers.Fronts.{lent_is}
use Rattle.telegrams.proofs.Buffers.Completed.{settled, settled_front, bits_before}
use Rattle.telegrams.proofs.making.settle.Goals as goal

pub overflow_sub-at : goal.overflow_sub-at
overflow_sub-at c =
    let last : 110 ≤ c.telegram_bits-n.result = omega (arith, (sizes_of c.args.format).n_is) in
    last

pub write_settings-requires : goal.write_settings-requires
write_settings-requires c =
    let last : 110 ≤ c.telegram_bits-n.result = omega (arith, (sizes_of c.args.format).n_is) in
    simp (lent_is, length-drop) (omega (arith, last))

pub overflow_sub-end : goal.overflow_sub-end
overflow_sub-end c =
    let last : 110 ≤ c.telegram_bits-n.result = omega (arith, (sizes_of c.args.format).n_is) in
    omega (arith, last)

pub slice_bounds-check_bits-end-2 : goal.slice_bounds-check_bits-end-2
slice_bounds-check_bits-end-2 c =
    let last : 110 ≤ c.telegram_bits-n.result = omega (arith, (sizes_of c.args.format).n_is) in
    sym (length-take-le _ _ (omega (arith, last)))

pub check_bits-requires : goal.check_bits-requires
check_bits-requires c =
    let a = c.args in
    bits_before a.format a.telegram.now a.pair.scrambling a.pair.shaping c.requires.format_in_bounds c.telegram_bits-n.result c.telegram_bits-n.ensures
    c.write_settings.new.out c.write_settings.ensures c.requires.are_bits

pub returns : goal.returns
returns c =
    let a = c.args in
    let n = c.telegram_bits-n.result in
    let n_is = c.telegram_bits-n.ensures in
    let left = c.write_settings.new.out in record {
      result_value = check_list a.format _ c.check_bits.ensures.result_value
          ∙ ap (check_bits (numbers_of a.format)) (settled_front a.format a.telegram.now a.pair.scrambling a.pair.shaping c.requires.format_in_bounds n n_is left c.write_settings.ensures);
      result_bound = c.check_bits.ensures.result_bound;
      telegram_after = settled a.format a.telegram.now a.pair.scrambling a.pair.shaping c.requires.format_in_bounds n n_is left c.write_settings.ensures;
    }
