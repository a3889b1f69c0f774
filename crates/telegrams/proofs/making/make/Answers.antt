-- `telegrams::making::make` meets its contract, by those of the functions that write its parts. Assumes nothing.
use mathlib.Core.Path.{◌≡◌, sym, ap, subst⁻¹, ◌∙◌}
use mathlib.Core.List.{List, ◌++◌}
use Prim.Native.Nat.{ℕ, ◌*◌, ◌/◌, ◌≤◌}
use native.Mathlib.Omega.{arith}
use lib.Dec.{T}
use lib.ListN.{length, take, drop}
use lib.Seq.{length-take-le}
use Rattle.bits.specs.Bits.{all_bits}
use Rattle.bits.proofs.Parts.{front_is}
use Rattle.formats.specs.declared.format.Format.{Format}
use Rattle.formats.specs.Numbers.{long, numbers_of, blocks}
use Rattle.formats.proofs.Sizes.{sizes_of, block_between}
use Rattle.scrambling.specs.Scrambling.{scrambled}
use Rattle.scrambling.specs.Sum.{with_sum}
use Rattle.scrambling.proofs.Summed.{with_sum-length, with_sum_bits}
use Rattle.telegrams.specs.Telegram.{shaped}
use Rattle.telegrams.proofs.Made.{bits_shaped_data}
use Rattle.telegrams.proofs.Buffers.Completed.{data_front, made_over}
use Rattle.telegrams.proofs.making.make.Goals as goal

module _ (format : Format) (u : List ℕ) (size : length u ≡ (numbers_of format).m) where
  ten : 10 ≤ length u
  ten = omega (arith, sizes_of format)

  fits : length u ≤ long.m
  fits = omega (arith, block_between format)

  module _ (old s : List ℕ) (e : s ≡ with_sum (length u / 10) u ++ drop (length u) old) where
    -- the block with its sum stands in front of the array
    summed : take (length u) s ≡ with_sum (blocks (numbers_of format)) u
    summed =
        front_is (with_sum (length u / 10) u) _ s (length u) (with_sum-length (length u / 10) u ten) e ∙ ap (λ (m : ℕ). with_sum (m / 10) u) size

    -- and its shaped data over the front of out
    filled : (B : ℕ) (out t : List ℕ)
        → t ≡ shaped (blocks (numbers_of format)) (scrambled B (take (length u) s)) ++ drop (11 * blocks (numbers_of format)) out
        → t ≡ shaped (blocks (numbers_of format)) (scrambled B (with_sum (blocks (numbers_of format)) u)) ++ drop (11 * blocks (numbers_of format)) out
    filled B out t f = rw summed at f

pub write_summed-requires : goal.write_summed-requires
write_summed-requires c =
    let within = fits c.args.block.format c.args.block.bits.now c.args.block.size in record {
      are_bits = c.args.block.are_bits;
      in_bounds = (ten c.args.block.format c.args.block.bits.now c.args.block.size, omega (arith, within));
      room = within;
    }

pub slice_bounds-buffer-end : goal.slice_bounds-buffer-end
slice_bounds-buffer-end c = omega (arith, fits c.args.block.format c.args.block.bits.now c.args.block.size)

pub slice_bounds-summed-end : goal.slice_bounds-summed-end
slice_bounds-summed-end c =
    sym (length-take-le _ _ (omega (arith, fits c.args.block.format c.args.block.bits.now c.args.block.size)))

pub invariant_of-summed : goal.invariant_of-summed
invariant_of-summed c =
    let u = c.args.block.bits.now in
    let k = blocks (numbers_of c.args.block.format) in
    rw (summed c.args.block.format u c.args.block.size _ _ c.write_summed.ensures) (record {
      are_bits = with_sum_bits k u c.args.block.are_bits;
      size = with_sum-length k u (ten c.args.block.format u c.args.block.size) ∙ c.args.block.size;
    })

pub complete-requires : goal.complete-requires
complete-requires c =
    let a = c.args in
    let F = numbers_of a.block.format in
    let written = filled a.block.format a.block.bits.now c.args.block.size _ _ c.write_summed.ensures a.pair.scrambling _ _ c.write_shaped_data.ensures in
    let front = data_front F (sizes_of a.block.format) a.block.bits.now a.pair.scrambling a.out.now c.write_shaped_data.new.telegram written in record {
      format_in_bounds = omega arith;
      are_bits = subst⁻¹ (λ (l : List ℕ). T (all_bits l)) front (bits_shaped_data F a.block.bits.now a.pair.scrambling);
    }

pub returns : goal.returns
returns c =
    let a = c.args in
    let written = filled a.block.format a.block.bits.now c.args.block.size _ _ c.write_summed.ensures a.pair.scrambling _ _ c.write_shaped_data.ensures in
    made_over (numbers_of a.block.format) (sizes_of a.block.format) a.block.bits.now a.pair.scrambling a.pair.shaping a.out.now
    c.write_shaped_data.new.telegram c.complete.new.telegram written c.complete.ensures
