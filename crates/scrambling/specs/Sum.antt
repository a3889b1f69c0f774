-- The first block replaced by the sum of all blocks of ten bits, and the undoing (document 01, "Scrambling", and "Search, reading and place").
-- Formula 3.3 of source document 000 prints an addition for the undoing: the other blocks are subtracted.
-- Assumes nothing.
use Rattle.std.specs.Prelude.{ℕ, ◌+◌, ◌-◌, ◌%◌, List, ◌++◌, take, drop}
use Rattle.bits.specs.Bits.{number_of, bits_of}
use Rattle.bits.specs.Groups.{over_groups}

-- the number of the first block of u
abbrev pub first_block : List ℕ → ℕ
first_block u = number_of (take 10 u)

-- u with its first block replaced by the number x
abbrev pub with_first_block : ℕ → List ℕ → List ℕ
with_first_block x u = bits_of 10 x ++ drop 10 u

-- the sum of the first k blocks of u
abbrev pub sum_of_blocks : ℕ → List ℕ → ℕ
sum_of_blocks = over_groups ◌+◌ 0 number_of 10

-- the sum of the blocks after the first, of k blocks in all
abbrev pub sum_of_others : ℕ → List ℕ → ℕ
sum_of_others k u = sum_of_blocks (k - 1) (drop 10 u)

-- the first block replaced by the sum of all k blocks modulo 1024
unfoldable pub with_sum : ℕ → List ℕ → List ℕ
with_sum k u = with_first_block (sum_of_blocks k u % 1024) u

-- first block = replaced block minus the other blocks, modulo 1024
unfoldable pub without_sum : ℕ → List ℕ → List ℕ
without_sum k v = with_first_block ((first_block v + (1024 - sum_of_others k v % 1024)) % 1024) v
