-- `quick_encoder::search::pair_from` meets its contract. The loop's invariant: no pair before the next one is proper. Assumes nothing.
use mathlib.Core.Path.{◌≡◌, refl, sym, ap, ◌∙◌}
use mathlib.Core.List.{List, ◌++◌}
use Prim.Native.Nat.{ℕ, ◌+◌, ◌*◌, ◌/◌, ◌≤◌}
use native.Mathlib.Omega.{arith}
use lib.ListN.{length, take, drop}
use lib.Seq.{length-take-le}
use Rattle.bits.proofs.Left.{left-none}
use Rattle.formats.specs.declared.format.Format.{Format}
use Rattle.formats.specs.Numbers.{numbers_of, blocks}
use Rattle.formats.proofs.Sizes.{telegram_between}
use Rattle.scrambling.specs.Scrambling.{scrambled}
use Rattle.scrambling.specs.Sum.{with_sum}
use Rattle.telegrams.specs.Telegram.{shaped, shaped_data}
use Rattle.encoder.specs.Searched.{pair_of}
use Rattle.encoder.proofs.Pairs.{pair_searched}
use Rattle.encoder.proofs.Tried.{block_ten, block_within, summed, summed_bits, summed_size}
use Rattle.quick_encoder.specs.PairFrom.{shaping_from, shaping_at}
use Rattle.quick_encoder.proofs.OneScrambling.{shaping_at_lem, shaping_nothing, pairs_all, pair_of_lem, next-scrambling}
use Rattle.quick_encoder.proofs.search.pair_from.Goals as goal
use Rattle.std.specs.Prelude.{Option}

-- what the call answers, of the shaped data of the block
answered_of : (format : Format) (u : List ℕ) (size : length u ≡ (numbers_of format).m) (old s : List ℕ)
    → s ≡ with_sum (length u / 10) u ++ drop (length u) old
    → (B from : ℕ) (told : Option ℕ)
    → told ≡ shaping_at (shaping_from format (shaped (blocks (numbers_of format)) (scrambled B (take (length u) s))) B from)
    → told ≡ shaping_at (shaping_from format (shaped_data (numbers_of format) u B) B from)
unfolding shaped_data
answered_of format u size old s e B from told h =
    h
    ∙ ap (λ (v : List ℕ). shaping_at (shaping_from format (shaped (blocks (numbers_of format)) (scrambled B v)) B from))
    (summed format u size old s e)

pub write_summed-requires : goal.write_summed-requires
write_summed-requires c =
    let within = block_within c.args.format c.args.block.now c.requires.block_len in record {
      are_bits = c.requires.are_bits;
      in_bounds = (block_ten c.args.format c.args.block.now c.requires.block_len, omega (arith, within));
      room = within;
    }

pub loop-scrambling-init : goal.loop-scrambling-init
loop-scrambling-init c =
    let a = c.args in
    (refl, c.requires.pair_bound.1, pairs_all a.format a.block.now (1024 * a.pair.scrambling + a.pair.shaping) (omega (arith, c.requires.pair_bound)))

pub slice_bounds-buffer-end : goal.slice_bounds-buffer-end
slice_bounds-buffer-end c =
    omega (arith, block_within c.args.format c.args.block.now c.requires.block_len, c.write_summed.auto.out)

pub slice_bounds-summed-end : goal.slice_bounds-summed-end
slice_bounds-summed-end c =
    let within : length c.args.block.now ≤ length c.write_summed.new.out =
    omega (arith, block_within c.args.format c.args.block.now c.requires.block_len, c.write_summed.auto.out) in
    sym (length-take-le _ _ within)

pub invariant_of-summed : goal.invariant_of-summed
invariant_of-summed c =
    let format = c.args.format in
    let u = c.args.block.now in
    let size = c.requires.block_len in
    let written = c.write_summed.new.out in record {
      are_bits = summed_bits format u size _ written c.write_summed.ensures c.requires.are_bits;
      size = summed_size format u size _ written c.write_summed.ensures;
    }

pub shaping_for-found-requires : goal.shaping_for-found-requires
shaping_for-found-requires c =
    record {
      room = omega (arith, telegram_between c.args.format, c.loop-scrambling.invariant.0);
      pair_bound = (omega arith, c.loop-scrambling.invariant.1);
    }

pub returns-in-Some : goal.returns-in-Some
returns-in-Some c =
    let a = c.args in
    let answered = answered_of a.format a.block.now c.requires.block_len _ c.write_summed.new.out c.write_summed.ensures
    c.loop-scrambling.scrambling c.loop-scrambling.shaping c.shaping_for-found.result c.shaping_for-found.ensures in
    let e = c.in-Some.shaping in
    let pair = pair_of_lem a.format a.block.now (omega arith) c.loop-scrambling.invariant.1 c.loop-scrambling.invariant.2 e
    (shaping_at_lem _ e (sym answered ∙ c.in-Some.is)) in
    sym (ap pair_of pair.1 ∙ pair_searched c.loop-scrambling.scrambling e pair.0)

pub loop-scrambling-preserved : goal.loop-scrambling-preserved
loop-scrambling-preserved c =
    let a = c.args in
    let answered = answered_of a.format a.block.now c.requires.block_len _ c.write_summed.new.out c.write_summed.ensures
    c.loop-scrambling.scrambling c.loop-scrambling.shaping c.shaping_for-found.result c.shaping_for-found.ensures in (
      c.shaping_for-found.auto.telegram ∙ c.loop-scrambling.invariant.0,
      omega arith,
      next-scrambling a.format a.block.now (omega arith) c.loop-scrambling.invariant.1 c.loop-scrambling.invariant.2
          (shaping_nothing _ (sym answered ∙ c.in_default.is)),
    )

pub returns : goal.returns
returns c = sym (ap pair_of (left-none c.loop-scrambling.invariant.2 (omega arith)))
