-- `telegrams::making::write_shaped_data` meets its contract, by those of `scramble` and `shape`: what stands after the scrambled bits does
-- not count. Assumes nothing.
use mathlib.Core.Path.{ap, ◌∙◌}
use mathlib.Core.List.{List, [], ◌++◌}
use Prim.Native.Nat.{ℕ, ◌*◌, ◌/◌, ◌≤◌}
use native.Mathlib.Omega.{arith}
use lib.ListN.{length, drop, replicate}
use Rattle.bits.proofs.AllBits.{all_bits-append, all_bits-drop}
use Rattle.bits.proofs.Groups.{groups_front}
use Rattle.formats.specs.Numbers.{long}
use Rattle.formats.proofs.Sizes.{sizes_of, block_between}
use Rattle.scrambling.specs.Scrambling.{scrambled}
use Rattle.scrambling.proofs.Scrambled.{scrambled-length, scrambled_bits}
use Rattle.cyclic.proofs.Lists.{bits_zeros}
use Rattle.telegrams.specs.Telegram.{shaped}
use Rattle.telegrams.proofs.Shaping.{word_of_block}
use Rattle.telegrams.proofs.making.write_shaped_data.Goals as goal

-- the array that the scrambled bits go into
abbrev zeros : List ℕ
zeros = replicate long.m 0

pub scramble-requires : goal.scramble-requires
scramble-requires c =
    record {
      are_bits = c.args.summed.are_bits;
      block_in_bounds = omega (arith, block_between c.args.summed.format);
    }

pub shape-requires : goal.shape-requires
shape-requires c =
    let a = c.args in
    let v = a.summed.bits.now in
    let rest = all_bits-drop (length v) zeros (bits_zeros long.m) in record {
      are_bits = rw c.scramble.ensures (all_bits-append (scrambled a.b v) (drop (length v) zeros) (scrambled_bits a.b v) rest);
      k_in_bounds = omega (arith, block_between a.summed.format);
      room = omega (arith, (sizes_of a.summed.format).n_is);
    }

pub returns : goal.returns
returns c =
    let a = c.args in
    let k = length a.summed.bits.now / 10 in
    let s = scrambled a.b a.summed.bits.now in
    let rest = drop (length a.summed.bits.now) zeros in
    let within : 10 * k ≤ length s = omega (arith, scrambled-length a.b a.summed.bits.now) in
    c.shape.ensures
    ∙ ap (λ (l : List ℕ). l ++ drop (11 * k) a.telegram.now) (ap (shaped k) c.scramble.ensures ∙ groups_front ◌++◌ [] word_of_block 10 k s rest within)
    ∙ ap (λ (m : ℕ). shaped (m / 10) s ++ drop (11 * (m / 10)) a.telegram.now) c.args.summed.size
