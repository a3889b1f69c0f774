-- `encoder::search::first_pair` meets its contract. The invariants of the loops over B and over esb: the pairs before the next have failed, and
-- within one B its shaped data stands in front of the buffer. Assumes nothing.
use mathlib.Core.Path.{◌≡◌, refl, sym, ap, ◌∙◌}
use mathlib.Core.Bool.{Bool}
use mathlib.Core.List.{List}
use Prim.Native.Nat.{ℕ, ◌+◌, ◌*◌, ◌≤◌, ◌<◌}
use native.Mathlib.Omega.{arith}
use lib.ListN.{length}
use lib.Seq.{length-take-le}
use Rattle.bits.proofs.Left.{left_all, left_fewer, left-found, left-none}
use Rattle.formats.specs.declared.format.Format.{Format}
use Rattle.formats.specs.Numbers.{numbers_of}
use Rattle.formats.proofs.Sizes.{sizes_of, telegram_between}
use Rattle.refusals.specs.Refused.{pair_count}
use Rattle.cyclic.proofs.Formats.{facts_of}
use Rattle.telegrams.specs.Telegram.{telegram_of}
use Rattle.telegrams.proofs.Made.{bits_made, length_made}
use Rattle.encoder.specs.Encoding.{passes, first_pair}
use Rattle.encoder.specs.Searched.{made_proper, pair_of}
use Rattle.encoder.proofs.Pairs.{pair_searched, pair_passes}
use Rattle.encoder.proofs.Tried.{block_ten, block_within, summed_bits, summed_size, shaped-front, trying_fits, trying_bits, tried-telegram, tried-next}
use Rattle.encoder.proofs.search.first_pair.Goals as goal

-- what the call answers of the telegram is the test of its pair
tested_of : (format : Format) (u : List ℕ) (B esb : ℕ) → esb < 1024 → (front : List ℕ) (answer : Bool) → front ≡ telegram_of (numbers_of format) u B esb
    → answer ≡ made_proper format front → passes format u (1024 * B + esb) ≡ answer
tested_of format u B esb below front answer is h = sym (h ∙ ap (made_proper format) is ∙ pair_passes format u B esb below)

pub write_summed-requires : goal.write_summed-requires
write_summed-requires c =
    let within = block_within c.args.format c.args.block.now c.requires.block_len in record {
      are_bits = c.requires.are_bits;
      in_bounds = (block_ten c.args.format c.args.block.now c.requires.block_len, omega (arith, within));
      room = within;
    }

pub loop-scrambling-init : goal.loop-scrambling-init
unfolding first_pair
loop-scrambling-init c =
    let a = c.args in
    (refl, left_all (passes a.format a.block.now) pair_count)

pub slice_bounds-buffer-end : goal.slice_bounds-buffer-end
slice_bounds-buffer-end c =
    omega (arith, block_within c.args.format c.args.block.now c.requires.block_len, c.write_summed.auto.out)

pub slice_bounds-summed-end : goal.slice_bounds-summed-end
slice_bounds-summed-end c =
    let within : length c.args.block.now ≤ length c.write_summed.new.out =
    omega (arith, block_within c.args.format c.args.block.now c.requires.block_len, c.write_summed.auto.out) in
    sym (length-take-le _ _ within)

pub invariant_of-summed : goal.invariant_of-summed
invariant_of-summed c =
    let format = c.args.format in
    let u = c.args.block.now in
    let summed = c.write_summed.new.out in record {
      are_bits = summed_bits format u c.requires.block_len _ summed c.write_summed.ensures c.requires.are_bits;
      size = summed_size format u c.requires.block_len _ summed c.write_summed.ensures;
    }

pub write_shaped_data-requires : goal.write_shaped_data-requires
write_shaped_data-requires c = omega (arith, telegram_between c.args.format, c.loop-scrambling.invariant.0)

pub loop-shaping-init : goal.loop-shaping-init
loop-shaping-init c =
    let b = c.loop-scrambling.scrambling in
    let next : 1024 * b ≡ 1024 * b + 0 = omega arith in (
      record {
        size = c.write_shaped_data.auto.telegram ∙ c.loop-scrambling.invariant.0;
        front = shaped-front c.args.format c.args.block.now c.requires.block_len _ c.write_summed.new.out c.write_summed.ensures
            b c.loop-scrambling.telegram c.write_shaped_data.new.telegram c.write_shaped_data.ensures;
      },
      omega arith,
      rw (← next) c.loop-scrambling.invariant.1,
    )

pub complete-requires : goal.complete-requires
complete-requires c =
    let buffer = c.loop-shaping.invariant.0 in record {
      format_in_bounds = trying_fits buffer;
      are_bits = trying_bits buffer;
    }

pub slice_bounds-telegram-end : goal.slice_bounds-telegram-end
slice_bounds-telegram-end c =
    let room = trying_fits (tried-next c.loop-shaping.invariant.0 _ c.complete.new.telegram c.complete.auto.telegram c.complete.ensures) in
    omega (arith, room, c.telegram_bits-n.ensures)

pub slice_bounds-passes-end : goal.slice_bounds-passes-end
slice_bounds-passes-end c =
    let room = trying_fits (tried-next c.loop-shaping.invariant.0 _ c.complete.new.telegram c.complete.auto.telegram c.complete.ensures) in
    let within : c.telegram_bits-n.result ≤ length c.complete.new.telegram = omega (arith, room, c.telegram_bits-n.ensures) in
    sym (length-take-le _ _ within)

pub invariant_of-passes : goal.invariant_of-passes
invariant_of-passes c =
    let a = c.args in
    let F = numbers_of a.format in
    let A = facts_of a.format in
    let S = sizes_of a.format in
    let front = tried-telegram c.loop-shaping.invariant.0 _ c.complete.new.telegram c.complete.auto.telegram c.complete.ensures _ c.telegram_bits-n.ensures in record {
      are_bits = rw front (bits_made F A S a.block.now c.loop-scrambling.scrambling c.loop-shaping.shaping);
      size = rw front (length_made F A S a.block.now c.loop-scrambling.scrambling c.loop-shaping.shaping);
    }

pub loop-shaping-preserved : goal.loop-shaping-preserved
loop-shaping-preserved c =
    let a = c.args in
    let B = c.loop-scrambling.scrambling in
    let esb = c.loop-shaping.shaping in
    let tested = tested_of a.format a.block.now B esb (omega arith) _ _
    (tried-telegram c.loop-shaping.invariant.0 _ c.complete.new.telegram c.complete.auto.telegram c.complete.ensures _ c.telegram_bits-n.ensures) c.passes.ensures in
    let next : 1024 * B + esb + 1 ≡ 1024 * B + (esb + 1) = omega arith in (
      tried-next c.loop-shaping.invariant.0 _ c.complete.new.telegram c.complete.auto.telegram c.complete.ensures,
      omega arith,
      rw (← next) (left_fewer c.loop-shaping.invariant.2 (omega arith) (tested ∙ c.if-passes.false)),
    )

pub loop-scrambling-preserved : goal.loop-scrambling-preserved
loop-scrambling-preserved c =
    let b = c.loop-scrambling.scrambling in
    let next : 1024 * b + c.loop-shaping.shaping ≡ 1024 * (b + 1) = omega arith in
    (c.loop-shaping.invariant.0.size, rw (← next) c.loop-shaping.invariant.2)

pub returns-then-passes : goal.returns-then-passes
returns-then-passes c =
    let a = c.args in
    let B = c.loop-scrambling.scrambling in
    let esb = c.loop-shaping.shaping in
    let tested = tested_of a.format a.block.now B esb (omega arith) _ _
    (tried-telegram c.loop-shaping.invariant.0 _ c.complete.new.telegram c.complete.auto.telegram c.complete.ensures _ c.telegram_bits-n.ensures) c.passes.ensures in
    sym (ap pair_of (left-found c.loop-shaping.invariant.2 (omega arith) (tested ∙ c.if-passes.true)) ∙ pair_searched B esb (omega arith))

pub returns-after-loop-scrambling : goal.returns-after-loop-scrambling
returns-after-loop-scrambling c = sym (ap pair_of (left-none c.loop-scrambling.invariant.1 (omega arith)))
