-- `reader::telegram::read_parts` meets its contract, by those of `telegram_in` and `read_telegram`. Assumes nothing.
use mathlib.Core.Path.{◌≡◌, sym, ap, ap₂, ◌∙◌}
use mathlib.Core.Bool.{Bool}
use mathlib.Core.List.{List}
use Prim.Native.Nat.{ℕ, ◌≤◌}
use native.Mathlib.Omega.{arith}
use lib.ListN.{length, take, drop, replicate}
use Rattle.formats.specs.Numbers.{numbers_of}
use Rattle.formats.proofs.Sizes.{sizes_of, block_between}
use Rattle.reader.specs.Reads.{telegram_in}
use Rattle.reader.specs.AtTurn.{read_telegram, read_at_turn}
use Rattle.reader.proofs.Parts.Found.{length_found, bits_found, found_front}
use Rattle.reader.proofs.telegram.read_parts.Goals as goal

pub telegram_in-flipped-requires : goal.telegram_in-flipped-requires
telegram_in-flipped-requires c =
    let fits : (numbers_of c.args.format).n ≤ 1023 = omega (arith, sizes_of c.args.format, block_between c.args.format) in
    record {
      t_bound = c.requires.t_bound;
      room = fits;
    }

pub slice_bounds-telegram-end : goal.slice_bounds-telegram-end
slice_bounds-telegram-end c =
    let fits : (numbers_of c.args.format).n ≤ 1023 = omega (arith, sizes_of c.args.format, block_between c.args.format) in
    omega (arith, fits)

pub slice_bounds-found-end : goal.slice_bounds-found-end
slice_bounds-found-end c =
    let front : let a = c.args in take c.telegram_bits-n.result c.telegram_in-flipped.new.out ≡ telegram_in (numbers_of a.format) a.t a.bits.now =
    let a = c.args in
    let F = numbers_of a.format in
    found_front F a.t a.bits.now (omega (arith, c.requires.size)) c.telegram_bits-n.result c.telegram_bits-n.ensures
    c.telegram_in-flipped.new.out (drop F.n (replicate 1023 0)) c.telegram_in-flipped.ensures.out_after in
    let size : let a = c.args in length (take c.telegram_bits-n.result c.telegram_in-flipped.new.out) ≡ (numbers_of a.format).n =
    let a = c.args in
    ap length (front) ∙ length_found (numbers_of a.format) a.t a.bits.now (omega (arith, c.requires.size)) in
    c.telegram_bits-n.ensures ∙ sym (size)

pub invariant_of-found : goal.invariant_of-found
invariant_of-found c =
    let front : let a = c.args in take c.telegram_bits-n.result c.telegram_in-flipped.new.out ≡ telegram_in (numbers_of a.format) a.t a.bits.now =
    let a = c.args in
    let F = numbers_of a.format in
    found_front F a.t a.bits.now (omega (arith, c.requires.size)) c.telegram_bits-n.result c.telegram_bits-n.ensures
    c.telegram_in-flipped.new.out (drop F.n (replicate 1023 0)) c.telegram_in-flipped.ensures.out_after in
    let size : let a = c.args in length (take c.telegram_bits-n.result c.telegram_in-flipped.new.out) ≡ (numbers_of a.format).n =
    let a = c.args in
    ap length (front) ∙ length_found (numbers_of a.format) a.t a.bits.now (omega (arith, c.requires.size)) in
    let a = c.args in record {
      are_bits = rw (front) (bits_found (numbers_of a.format) a.t a.bits.now c.requires.are_bits);
      size = size;
    }

pub returns : goal.returns
unfolding read_at_turn
returns c =
    let front : let a = c.args in take c.telegram_bits-n.result c.telegram_in-flipped.new.out ≡ telegram_in (numbers_of a.format) a.t a.bits.now =
    let a = c.args in
    let F = numbers_of a.format in
    found_front F a.t a.bits.now (omega (arith, c.requires.size)) c.telegram_bits-n.result c.telegram_bits-n.ensures
    c.telegram_in-flipped.new.out (drop F.n (replicate 1023 0)) c.telegram_in-flipped.ensures.out_after in
    let a = c.args in
    ap₂ (λ (f : Bool) (b : List ℕ). read_telegram a.asked a.format a.t f b a.output.now) (sym c.telegram_in-flipped.ensures.value) (sym (front))
    ∙ c.read_telegram.ensures
