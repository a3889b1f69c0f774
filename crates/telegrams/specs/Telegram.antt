-- The telegram made from a block of user bits, the scrambling bits' number B and the extra shaping bits' number
-- (document 01, "The telegram, left to right"; document 02, No. 11).
-- Assumes nothing.
use Rattle.std.specs.Prelude.{ℕ, Bool, ◌&&◌, List, [], ◌∷◌, ◌++◌, leb}
use Rattle.bits.specs.Bits.{number_of, bits_of}
use Rattle.bits.specs.Groups.{each_group}
use Rattle.formats.specs.Numbers.{Numbers, blocks}
use Rattle.words.specs.Words.{word_of}
use Rattle.scrambling.specs.Scrambling.{scrambled}
use Rattle.scrambling.specs.Sum.{with_sum}
use Rattle.cyclic.specs.Check.{check_bits}
use Rattle.telegrams.specs.declared.Pair.{Pair}

-- each of the next k blocks of ten bits, as a number i, becomes entry i of the table
abbrev pub shaped : ℕ → List ℕ → List ℕ
shaped = each_group (λ block. bits_of 11 (word_of (number_of block))) 10

-- b(n-1) to b110: the shaped data
unfoldable pub shaped_data : Numbers → List ℕ → ℕ → List ℕ
shaped_data F u B = shaped (blocks F) (scrambled B (with_sum (blocks F) u))

-- b109 to b107
abbrev pub control : List ℕ
control = 0 ∷ 0 ∷ 1 ∷ []

-- B and esb are numbers of twelve and ten bits
abbrev pub is_pair : ℕ → ℕ → Bool
is_pair B esb = leb B 4095 && leb esb 1023

-- the pair of both
abbrev pub pair_with : ℕ → ℕ → Pair
pair_with B esb = record { scrambling = B; shaping = esb }

-- b109 to b85: control bits, scrambling bits, extra shaping bits
unfoldable pub settings : ℕ → ℕ → List ℕ
settings B esb = control ++ (bits_of 12 B ++ bits_of 10 esb)

-- what stands before the check bits
unfoldable pub unchecked : Numbers → List ℕ → ℕ → ℕ → List ℕ
unchecked F u B esb = shaped_data F u B ++ settings B esb

-- the telegram of the block u, B and esb: all of these, and the check bits
unfoldable pub telegram_of : Numbers → List ℕ → ℕ → ℕ → List ℕ
telegram_of F u B esb = unchecked F u B esb ++ check_bits F (unchecked F u B esb)
