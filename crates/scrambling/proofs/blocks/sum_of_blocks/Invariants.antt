-- `scrambling::blocks::sum_of_blocks` meets its contract. The loop's invariant: the sum of all blocks is the sum so far and that of the rest; each
-- block is at most 1023. Assumes nothing.
use Rattle.std.proofs.Common.{◌≡◌, ◌+◌, ◌-◌, ◌*◌, ◌≤◌, drop}
use Rattle.scrambling.specs.Sum.{sum_of_blocks}
use Rattle.scrambling.proofs.blocks.sum_of_blocks.Given as goal

abbrev pub invariant-loop-j : goal.invariant-loop-j
invariant-loop-j l =
    (l.sum ≤ 1023 * l.j) × (sum_of_blocks l.blocks l.block ≡ l.sum + sum_of_blocks (l.blocks - l.j) (drop (10 * l.j) l.block))
