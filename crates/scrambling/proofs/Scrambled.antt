-- Scrambling and descrambling keep the length, give bits, and undo each other: both registers are fed the scrambled bit. Assumes nothing.
use Rattle.std.proofs.Common.{◌≡◌, ℕ, suc, ◌<◌, T, List, [], ◌∷◌, length, refl, ap, ◌∙◌, ap₂, arith}
use Rattle.bits.specs.Bits.{all_bits}
use Rattle.bits.proofs.AllBits.{all_bits-nil, all_bits-cons, all_bits_head, all_bits-tail}
use Rattle.scrambling.specs.Scrambling.{seed_of, top_bit, xor_bit, next_state, scrambled_from, descrambled_from, scrambled, descrambled}

length-scrambled_from : (r : ℕ) (u : List ℕ) → length (scrambled_from r u) ≡ length u
unfolding scrambled_from
length-scrambled_from r [] = refl
length-scrambled_from r (b ∷ u) = ap suc (length-scrambled_from (next_state r (xor_bit (top_bit r) b)) u)

length-descrambled_from : (r : ℕ) (v : List ℕ) → length (descrambled_from r v) ≡ length v
unfolding descrambled_from
length-descrambled_from r [] = refl
length-descrambled_from r (s ∷ v) = ap suc (length-descrambled_from (next_state r s) v)

bits_scrambled_from : (r : ℕ) (u : List ℕ) → T (all_bits (scrambled_from r u))
unfolding scrambled_from
bits_scrambled_from r [] = all_bits-nil
bits_scrambled_from r (b ∷ u) = all_bits-cons _ _ (omega arith) (bits_scrambled_from (next_state r (xor_bit (top_bit r) b)) u)

bits_descrambled_from : (r : ℕ) (v : List ℕ) → T (all_bits (descrambled_from r v))
unfolding descrambled_from
bits_descrambled_from r [] = all_bits-nil
bits_descrambled_from r (s ∷ v) = all_bits-cons _ _ (omega arith) (bits_descrambled_from (next_state r s) v)

-- XOR with the same bit twice
xor_bit_twice : (a b : ℕ) → b < 2 → xor_bit a (xor_bit a b) ≡ b
xor_bit_twice a b h = omega arith

descrambled_from-scrambled_from : (r : ℕ) (u : List ℕ) → T (all_bits u) → descrambled_from r (scrambled_from r u) ≡ u
unfolding scrambled_from descrambled_from
descrambled_from-scrambled_from r [] h = refl
descrambled_from-scrambled_from r (b ∷ u) h =
    ap₂ ◌∷◌ (xor_bit_twice (top_bit r) b (all_bits_head b u h)) (descrambled_from-scrambled_from (next_state r (xor_bit (top_bit r) b)) u (all_bits-tail b u h))

scrambled_from-descrambled_from : (r : ℕ) (v : List ℕ) → T (all_bits v) → scrambled_from r (descrambled_from r v) ≡ v
unfolding scrambled_from descrambled_from
scrambled_from-descrambled_from r [] h = refl
scrambled_from-descrambled_from r (s ∷ v) h =
    ap (λ (t : ℕ). t ∷ scrambled_from (next_state r t) (descrambled_from (next_state r s) v)) (xor_bit_twice (top_bit r) s (all_bits_head s v h))
    ∙ ap (λ (l : List ℕ). s ∷ l) (scrambled_from-descrambled_from (next_state r s) v (all_bits-tail s v h))

-- ---- from the register's start

pub scrambled-length : (B : ℕ) (u : List ℕ) → length (scrambled B u) ≡ length u
unfolding scrambled
scrambled-length B u = length-scrambled_from (seed_of B) u

pub descrambled-length : (B : ℕ) (v : List ℕ) → length (descrambled B v) ≡ length v
unfolding descrambled
descrambled-length B v = length-descrambled_from (seed_of B) v

pub scrambled_bits : (B : ℕ) (u : List ℕ) → T (all_bits (scrambled B u))
unfolding scrambled
scrambled_bits B u = bits_scrambled_from (seed_of B) u

pub descrambled_bits : (B : ℕ) (v : List ℕ) → T (all_bits (descrambled B v))
unfolding descrambled
descrambled_bits B v = bits_descrambled_from (seed_of B) v

pub descrambled-scrambled : (B : ℕ) (u : List ℕ) → T (all_bits u) → descrambled B (scrambled B u) ≡ u
unfolding scrambled descrambled
descrambled-scrambled B u h = descrambled_from-scrambled_from (seed_of B) u h

pub scrambled-descrambled : (B : ℕ) (v : List ℕ) → T (all_bits v) → scrambled B (descrambled B v) ≡ v
unfolding scrambled descrambled
scrambled-descrambled B v h = scrambled_from-descrambled_from (seed_of B) v h
