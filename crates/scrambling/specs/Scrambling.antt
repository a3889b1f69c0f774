-- Scrambling by a 32-bit register, and its undoing (document 01, "Scrambling"; source document 000, 2.3.1).
-- Assumes nothing.
use Rattle.std.specs.Prelude.{ℕ, ◌+◌, ◌*◌, ◌/◌, ◌%◌, ◌^◌, cond, List, [], ◌∷◌, ◌==◌, bit_xor}

-- S = 2801775573 * B modulo 2^32
abbrev pub seed_of : ℕ → ℕ
seed_of B = 2801775573 * B % 2 ^ 32

-- the top bit of the register r
abbrev pub top_bit : ℕ → ℕ
top_bit r = r / 2 ^ 31

-- a bit XOR a bit
abbrev pub xor_bit : ℕ → ℕ → ℕ
xor_bit a b = (a + b) % 2

-- the register r shifted left, its top bit dropped
abbrev pub shifted : ℕ → ℕ
shifted r = r * 2 % 2 ^ 32

-- the number that has bits 31, 30, 29, 27, 25 and 0 set
abbrev pub feedback : ℕ
feedback = 2 ^ 31 + 2 ^ 30 + 2 ^ 29 + 2 ^ 27 + 2 ^ 25 + 2 ^ 0

-- the register r after the scrambled bit s: shifted, and, if s is 1, XORed with the feedback
unfoldable pub next_state : ℕ → ℕ → ℕ
next_state r s = cond (s == 1) (bit_xor (shifted r) feedback) (shifted r)

-- user bits scrambled from the register r on: each scrambled bit is the top bit XOR the next user bit, and the register is fed the scrambled bit
unfoldable pub scrambled_from : ℕ → List ℕ → List ℕ
scrambled_from r [] = []
scrambled_from r (u ∷ us) = xor_bit (top_bit r) u ∷ scrambled_from (next_state r (xor_bit (top_bit r) u)) us

-- scrambled bits descrambled from the register r on: each user bit is the top bit XOR the next scrambled bit, and the register is fed the scrambled bit
unfoldable pub descrambled_from : ℕ → List ℕ → List ℕ
descrambled_from r [] = []
descrambled_from r (s ∷ ss) = xor_bit (top_bit r) s ∷ descrambled_from (next_state r s) ss

-- the register starts at S
unfoldable pub scrambled : ℕ → List ℕ → List ℕ
scrambled B us = scrambled_from (seed_of B) us

unfoldable pub descrambled : ℕ → List ℕ → List ℕ
descrambled B ss = descrambled_from (seed_of B) ss
