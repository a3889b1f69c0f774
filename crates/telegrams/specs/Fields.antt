-- The fields of a telegram, and when it is well-formed (document 01, "The telegram, left to right").
-- b is b(n-1) to b0, so b(i) stands at place n-1-i of the list.
-- Assumes nothing.
use Rattle.std.specs.Prelude.{ℕ, ◌-◌, Bool, ◌&&◌, List, eqb, length, take, drop}
use Rattle.bits.specs.Bits.{all_bits, same, number_of, bits_of}
use Rattle.bits.specs.Groups.{each_group, every_group}
use Rattle.formats.specs.Numbers.{Numbers, blocks}
use Rattle.words.specs.Words.{lookup_of, is_word, number_in}
use Rattle.scrambling.specs.Scrambling.{descrambled}
use Rattle.scrambling.specs.Sum.{without_sum}
use Rattle.cyclic.specs.Check.{check_bits}
use Rattle.telegrams.specs.Telegram.{control}

-- b109 to b107
unfoldable pub control_of : Numbers → List ℕ → List ℕ
control_of F b = take 3 (drop (F.n - 110) b)

-- b106 to b95 as a number
unfoldable pub scrambling_of : Numbers → List ℕ → ℕ
scrambling_of F b = number_of (take 12 (drop (F.n - 107) b))

-- b94 to b85 as a number
unfoldable pub shaping_of : Numbers → List ℕ → ℕ
shaping_of F b = number_of (take 10 (drop (F.n - 95) b))

-- each of the next k words of eleven bits becomes the ten bits of its number
abbrev pub unshaped : ℕ → List ℕ → List ℕ
unshaped = each_group (λ word. bits_of 10 (number_in (lookup_of (number_of word)))) 11

-- the user bits
unfoldable pub user_bits_of : Numbers → List ℕ → List ℕ
user_bits_of F b = without_sum (blocks F) (descrambled (scrambling_of F b) (unshaped (blocks F) b))

-- the next k words are all in the table
abbrev pub all_words : ℕ → List ℕ → Bool
all_words = every_group is_word 11

-- b84 to b0 are the check bits of what stands before them
unfoldable pub checked : Numbers → List ℕ → Bool
checked F b = same (drop (F.n - 85) b) (check_bits F (take (F.n - 85) b))

-- n bits; control 0, 0, 1; every word in the table, the last ten too; the check bits
unfoldable pub well_formed : Numbers → List ℕ → Bool
well_formed F b =
    eqb (length b) F.n && all_bits b && same (control_of F b) control && all_words F.words b && checked F b
