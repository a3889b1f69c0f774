-- `scrambling::add_sum` meets its contract, by those of `sum_of_blocks` and `write_number`. Assumes nothing.
use Rattle.std.proofs.Common.{ℕ, ◌%◌, ap, ◌∙◌}
use Rattle.scrambling.specs.Sum.{with_first_block, with_sum}
use Rattle.scrambling.proofs.add_sum.Goals as goal

pub returns : goal.returns
unfolding with_sum
returns c =
    c.write_number.ensures
    ∙ ap (λ (sum : ℕ). with_first_block (sum % 1024) c.args.block.now) c.sum_of_blocks-sum.ensures
