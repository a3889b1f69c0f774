-- `reader::turned::telegram_in` meets its contract, by those of `turn_back` and `flip`. Assumes nothing.
use mathlib.Core.Path.{◌≡◌, sym, ap, ◌∙◌}
use Prim.Native.Nat.{◌≤◌}
use native.Mathlib.Omega.{arith}
use lib.ListN.{length, take}
use lib.Seq.{length-take-le}
use Rattle.formats.specs.Numbers.{numbers_of}
use Rattle.formats.proofs.Sizes.{sizes_of}
use Rattle.reader.specs.Reads.{turned_back}
use Rattle.reader.proofs.Parts.Found.{length_back, bits_back, front_is, is_flipped_lem, is_upright, flipped_stands, upright_stands}
use Rattle.reader.proofs.turned.telegram_in.Goals as goal

pub slice_bounds-turn_back-end : goal.slice_bounds-turn_back-end
slice_bounds-turn_back-end c = sym (length-take-le c.telegram_bits-n.result c.args.window.bits.now (omega arith))

pub turn_back-requires : goal.turn_back-requires
turn_back-requires c =
    let n = c.telegram_bits-n.result in
    let size : length (take n c.args.window.bits.now) ≡ n = length-take-le n c.args.window.bits.now (omega arith) in
    record {
      t_in_bounds = omega arith;
      first_in_bounds = omega arith;
    }

pub overflow_sub-b109 : goal.overflow_sub-b109
overflow_sub-b109 c =
    let b109 : 110 ≤ (numbers_of c.args.window.format).n = omega (arith, (sizes_of c.args.window.format).n_is) in
    omega (arith, b109)

pub bounds-out-b109 : goal.bounds-out-b109
bounds-out-b109 c =
    let b109 : 110 ≤ (numbers_of c.args.window.format).n = omega (arith, (sizes_of c.args.window.format).n_is) in
    omega (arith, b109)

pub slice_bounds-flip-end-then-out-b109-eq1 : goal.slice_bounds-flip-end-then-out-b109-eq1
slice_bounds-flip-end-then-out-b109-eq1 c =
    let front : let a = c.args in take c.telegram_bits-n.result c.turn_back.new.out ≡ turned_back (numbers_of a.window.format) a.t a.window.bits.now =
    let a = c.args in
    front_is (numbers_of a.window.format) a.t a.window.bits.now (omega (arith, c.args.window.size)) c.telegram_bits-n.result c.telegram_bits-n.ensures
    a.out.now c.turn_back.new.out c.turn_back.ensures in
    let a = c.args in
    sym (ap length (front) ∙ length_back (numbers_of a.window.format) a.t a.window.bits.now (omega (arith, c.args.window.size)) ∙ sym c.telegram_bits-n.ensures)

pub flip-requires : goal.flip-requires
flip-requires c =
    let front : let a = c.args in take c.telegram_bits-n.result c.turn_back.new.out ≡ turned_back (numbers_of a.window.format) a.t a.window.bits.now =
    let a = c.args in
    front_is (numbers_of a.window.format) a.t a.window.bits.now (omega (arith, c.args.window.size)) c.telegram_bits-n.result c.telegram_bits-n.ensures
    a.out.now c.turn_back.new.out c.turn_back.ensures in
    let a = c.args in
    rw (front) (bits_back (numbers_of a.window.format) a.t a.window.bits.now c.args.window.are_bits)

pub returns-then-out-b109-eq1 : goal.returns-then-out-b109-eq1
returns-then-out-b109-eq1 c =
    let b109 : 110 ≤ (numbers_of c.args.window.format).n = omega (arith, (sizes_of c.args.window.format).n_is) in
    let a = c.args in
    let F = numbers_of a.window.format in
    let n = c.telegram_bits-n.result in
    let n_is = c.telegram_bits-n.ensures in
    let s = c.turn_back.new.out in
    let w = a.window.bits.now in
    let turned = c.turn_back.ensures in
    let one = is_flipped_lem F a.t w (omega (arith, c.args.window.size)) n n_is a.out.now s turned (b109) c.if-out-b109-eq1.true in record {
      value = sym one;
      out_after = flipped_stands F a.t w (omega (arith, c.args.window.size)) n n_is a.out.now s turned c.flip.new.s c.flip.ensures one;
    }

pub returns : goal.returns
returns c =
    let b109 : 110 ≤ (numbers_of c.args.window.format).n = omega (arith, (sizes_of c.args.window.format).n_is) in
    let a = c.args in
    let F = numbers_of a.window.format in
    let n = c.telegram_bits-n.result in
    let n_is = c.telegram_bits-n.ensures in
    let s = c.turn_back.new.out in
    let w = a.window.bits.now in
    let turned = c.turn_back.ensures in
    let other = is_upright F a.t w (omega (arith, c.args.window.size)) n n_is a.out.now s turned (b109) c.if-out-b109-eq1.false in record {
      value = sym other;
      out_after = upright_stands F a.t w (omega (arith, c.args.window.size)) n n_is a.out.now s turned other;
    }
