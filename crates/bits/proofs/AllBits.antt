-- The test that every element is 0 or 1: what it says of the elements, and of the parts of a list. Assumes nothing.
use mathlib.Core.List.{List, [], ◌∷◌, ◌++◌}
use Prim.Native.Nat.{ℕ, zero, suc, ◌/◌, ◌%◌, ◌^◌, ◌<◌}
use native.Mathlib.Omega.{arith}
use lib.Dec.{T, ltb, ltb→lt, lt→ltb, lit<}
use lib.ListN.{get_or, take, drop}
use Rattle.bits.specs.Bits.{all_bits, bits_of}
use Rattle.bits.proofs.And.{and_left, and_right, and_of}

pub all_bits-nil : T (all_bits [])
unfolding all_bits
all_bits-nil = tt

pub all_bits-cons : (b : ℕ) (s : List ℕ) → b < 2 → T (all_bits s) → T (all_bits (b ∷ s))
unfolding all_bits
all_bits-cons b s h k = and_of (ltb b 2) (all_bits s) (lt→ltb b 2 h) k

pub all_bits_head : (b : ℕ) (s : List ℕ) → T (all_bits (b ∷ s)) → b < 2
unfolding all_bits
all_bits_head b s h = ltb→lt b 2 (and_left (ltb b 2) (all_bits s) h)

pub all_bits-tail : (b : ℕ) (s : List ℕ) → T (all_bits (b ∷ s)) → T (all_bits s)
unfolding all_bits
all_bits-tail b s h = and_right (ltb b 2) (all_bits s) h

-- the element at any place, and 0 past the end
pub all_bits-get_or : (s : List ℕ) (i : ℕ) → T (all_bits s) → get_or s i 0 < 2
all_bits-get_or [] i h = lit< tt
all_bits-get_or (b ∷ s) zero h = all_bits_head b s h
all_bits-get_or (b ∷ s) (suc i) h = all_bits-get_or s i (all_bits-tail b s h)

pub all_bits-append : (u v : List ℕ) → T (all_bits u) → T (all_bits v) → T (all_bits (u ++ v))
all_bits-append [] v h k = k
all_bits-append (b ∷ u) v h k = all_bits-cons b (u ++ v) (all_bits_head b u h) (all_bits-append u v (all_bits-tail b u h) k)

pub all_bits-take : (i : ℕ) (s : List ℕ) → T (all_bits s) → T (all_bits (take i s))
all_bits-take zero s h = all_bits-nil
all_bits-take (suc i) [] h = all_bits-nil
all_bits-take (suc i) (b ∷ s) h = all_bits-cons b (take i s) (all_bits_head b s h) (all_bits-take i s (all_bits-tail b s h))

pub all_bits-drop : (i : ℕ) (s : List ℕ) → T (all_bits s) → T (all_bits (drop i s))
all_bits-drop zero s h = h
all_bits-drop (suc i) [] h = all_bits-nil
all_bits-drop (suc i) (b ∷ s) h = all_bits-drop i s (all_bits-tail b s h)

pub all_bits-bits_of : (k x : ℕ) → T (all_bits (bits_of k x))
unfolding bits_of
all_bits-bits_of zero x = all_bits-nil
all_bits-bits_of (suc k) x = all_bits-cons (x / 2 ^ k % 2) (bits_of k x) (omega arith) (all_bits-bits_of k x)
