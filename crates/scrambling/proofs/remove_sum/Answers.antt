-- `scrambling::remove_sum` meets its contract, by those of `number`, `sum_of_blocks` and `write_number`. Assumes nothing.
use Rattle.std.proofs.Common.{◌≡◌, ℕ, ◌+◌, ◌-◌, ◌/◌, ◌%◌, List, length, take, drop, ap, ◌∙◌, ap₂, arith, length-drop, take_all}
use Rattle.bits.proofs.AllBits.{all_bits-drop}
use Rattle.bits.proofs.Parts.{front_below}
use Rattle.scrambling.specs.Sum.{first_block, with_first_block, sum_of_blocks, sum_of_others, without_sum}
use Rattle.scrambling.proofs.remove_sum.Goals as goal

-- the other blocks as a part of the slice
others : (u : List ℕ) → take (length u - 10) (drop 10 u) ≡ drop 10 u
others u = take_all (length u - 10) (drop 10 u) (omega (arith, length-drop 10 u))

sum_of_others_lem : (u : List ℕ) → sum_of_blocks (length (take (length u - 10) (drop 10 u)) / 10) (take (length u - 10) (drop 10 u)) ≡ sum_of_others (length u / 10) u
sum_of_others_lem u =
    let blocks : length (drop 10 u) / 10 ≡ length u / 10 - 1 = omega (arith, length-drop 10 u) in
    ap (λ (l : List ℕ). sum_of_blocks (length l / 10) l) (others u) ∙ ap (λ (k : ℕ). sum_of_blocks k (drop 10 u)) blocks

-- the first block replaced by x is the undoing, if x is the number of the definition
undone : (k x : ℕ) (u v : List ℕ) → v ≡ with_first_block x u → x ≡ (first_block u + (1024 - sum_of_others k u % 1024)) % 1024 → v ≡ without_sum k u
unfolding without_sum
undone k x u v e n = e ∙ ap (λ (y : ℕ). with_first_block y u) n

pub number-first-requires : goal.number-first-requires
number-first-requires c = (omega arith, (omega arith, c.requires.are_bits))

pub sum_of_blocks-others-requires : goal.sum_of_blocks-others-requires
sum_of_blocks-others-requires c =
    let block = c.args.block.now in
    rw (others block) (record { are_bits = all_bits-drop 10 block c.requires.are_bits; block_len_bound = omega (arith, length-drop 10 block) })

pub overflow_add-first : goal.overflow_add-first
overflow_add-first c =
    omega (arith, c.number-first.ensures, front_below 10 c.args.block.now c.requires.are_bits)

pub returns : goal.returns
returns c =
    let block = c.args.block.now in
    undone (length block / 10) _ block _ c.write_number.ensures
    (ap₂ (λ (a b : ℕ). (a + (1024 - b % 1024)) % 1024) c.number-first.ensures (c.sum_of_blocks-others.ensures ∙ sum_of_others_lem block))
