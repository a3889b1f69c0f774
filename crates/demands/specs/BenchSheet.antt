-- The bench sheet's cases W1 to W12 (document 01, "Bench sheet"): what the definitions answer, and what the sheet says.
-- Assumes nothing.
use Rattle.std.specs.Prelude.{ℕ, List, [], ◌∷◌, ◌++◌, get_or, take, replicate}
use Rattle.bits.specs.Bits.{number_of, bits_of}
use Rattle.formats.specs.Numbers.{long, short, blocks, f_of}
use Rattle.words.specs.Words.{word_of}
use Rattle.scrambling.specs.Scrambling.{seed_of, scrambled}
use Rattle.scrambling.specs.Sum.{with_sum, without_sum}
use Rattle.cyclic.specs.Remainder.{remainder}
use Rattle.reader.specs.Reads.{read_values, read_of}

-- the number of the first ten bits
abbrev pub first_ten : List ℕ → ℕ
first_ten s = number_of (take 10 s)

-- a short block whose first ten bits are 1000, the last 100, the rest 0
abbrev pub sum_block : List ℕ
sum_block = bits_of 10 1000 ++ (replicate 190 0 ++ bits_of 10 100)

-- x^10
abbrev pub tenth : List ℕ
tenth = 1 ∷ replicate 10 0

-- the number with which reading a window answers, lent room for the short format
unfoldable pub refused_read : List ℕ → ℕ
refused_read w = get_or (read_values (read_of w (replicate 210 0)).answer) 0 0

unfoldable pub answers : List ℕ
answers =
    -- W1, W2
    word_of 0 ∷ word_of 1023
    -- W3, W4
    ∷ seed_of 1 ∷ seed_of 4095
    -- W5, and the word
    ∷ first_ten (scrambled 1 (replicate 830 0)) ∷ word_of (first_ten (scrambled 1 (replicate 830 0)))
    -- W6
    ∷ first_ten (scrambled 0 (1 ∷ replicate 829 0))
    -- W7, and its undoing
    ∷ first_ten (with_sum (blocks short) sum_block) ∷ first_ten (without_sum (blocks short) (with_sum (blocks short) sum_block))
    -- W8, W9
    ∷ number_of (remainder (f_of long) tenth) ∷ number_of (remainder (f_of short) tenth)
    -- W10, W11, W12
    ∷ refused_read (replicate 462 0) ∷ refused_read (replicate 461 0 ++ (1 ∷ [])) ∷ refused_read (replicate 461 0) ∷ []

unfoldable pub sheet : List ℕ
sheet =
    0o00101 ∷ 0o03676 ∷ 2801775573 ∷ 1413323819 ∷ 1021 ∷ 0o03674 ∷ 802 ∷ 76 ∷ 1000 ∷ 735 ∷ 427 ∷ 7 ∷ 5 ∷ 1 ∷ []
