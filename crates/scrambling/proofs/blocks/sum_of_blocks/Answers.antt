-- `scrambling::blocks::sum_of_blocks` meets its contract. The loop's invariant: the sum of all blocks is the sum so far and that of the rest; each
-- block is at most 1023. Assumes nothing.
use Rattle.std.proofs.Common.{◌+◌, ◌*◌, ◌/◌, ◌<◌, length, drop, arith}
use Rattle.bits.specs.Bits.{number_of}
use Rattle.bits.proofs.AllBits.{all_bits-drop}
use Rattle.bits.proofs.Groups.{groups_next, groups_done}
use Rattle.bits.proofs.Parts.{front_below}
use Rattle.scrambling.proofs.blocks.sum_of_blocks.Goals as goal

pub overflow_add-sum : goal.overflow_add-sum
overflow_add-sum c =
    let block = c.args.block.now in
    let at = 10 * c.loop-j.j in
    let small : c.number-sum.result < 1024 = rw c.number-sum.ensures (front_below 10 (drop at block) (all_bits-drop at block c.requires.are_bits)) in
    omega arith

pub loop-j-preserved : goal.loop-j-preserved
loop-j-preserved c =
    let block = c.args.block.now in
    let j = c.loop-j.j in
    let small : c.number-sum.result < 1024 = rw c.number-sum.ensures (front_below 10 (drop (10 * j) block) (all_bits-drop (10 * j) block c.requires.are_bits)) in (
      omega arith,
      omega (arith, groups_next ◌+◌ 0 number_of 10 (length block / 10) j block c.loop-j-test.true, c.number-sum.ensures),
    )

pub returns : goal.returns
returns c =
    let block = c.args.block.now in
    omega (arith, groups_done ◌+◌ 0 number_of 10 (length block / 10) c.loop-j.j (drop (10 * c.loop-j.j) block) c.loop-j-test.false)
