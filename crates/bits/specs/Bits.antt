-- Bits, one to a byte, earliest sent first (document 01, "What the bench takes in").
-- Assumes nothing.
use Rattle.std.specs.Prelude.{ℕ, zero, suc, ◌+◌, ◌-◌, ◌*◌, ◌/◌, ◌%◌, ◌^◌, Bool, true, false, ◌&&◌, List, [], ◌∷◌, eqb, ltb, length, get_or}

-- every byte is 0 or 1 (document 01, refusal 2)
unfoldable pub all_bits : List ℕ → Bool
all_bits [] = true
all_bits (b ∷ s) = ltb b 2 && all_bits s

-- the two lists are the same
unfoldable pub same : List ℕ → List ℕ → Bool
same [] [] = true
same [] (b ∷ v) = false
same (a ∷ u) [] = false
same (a ∷ u) (b ∷ v) = eqb a b && same u v

-- the number whose binary digits are those of a and then the bits of s
unfoldable pub number_from : ℕ → List ℕ → ℕ
number_from a [] = a
number_from a (b ∷ s) = number_from (a * 2 + b) s

-- the bits of s as a number, the first bit in the highest place
abbrev pub number_of : List ℕ → ℕ
number_of s = number_from 0 s

-- the lowest k binary digits of x, the highest of them first
unfoldable pub bits_of : ℕ → ℕ → List ℕ
bits_of zero x = []
bits_of (suc k) x = (x / 2 ^ k % 2) ∷ bits_of k x

-- each bit turned into the other
unfoldable pub flip : List ℕ → List ℕ
flip [] = []
flip (b ∷ s) = (1 - b) ∷ flip s

-- k bits of the ring of b from place p on: going round, the first follows the last (document 01, "Search, reading and place")
unfoldable pub around : ℕ → ℕ → List ℕ → List ℕ
around zero p b = []
around (suc k) p b = get_or b (p % length b) 0 ∷ around k (suc p) b
