-- Numbers and their binary digits: the number of some bits, the bits of a number, each from the other, and the bits of a number in two parts.
-- Assumes nothing.
use mathlib.Core.Path.{◌≡◌, refl, sym, ap, ap₂, ◌∙◌}
use mathlib.Core.List.{List, [], ◌∷◌, ◌++◌}
use Prim.Native.Nat.{ℕ, zero, suc, ◌+◌, ◌*◌, ◌/◌, ◌%◌, ◌^◌, ◌<◌}
use native.Mathlib.Nat.{pow-suc, mul_assoc, add-mul, add_assoc, add_comm, mul_comm, zero-add, suc-add, mod-eq_of_lt}
use native.Mathlib.Numerals.{add-one, one-add}
use native.Mathlib.Omega.{arith}
use lib.Arith.{digits_lt}
use lib.Dec.{T, lit<}
use lib.ListN.{length}
use lib.Pow.{high, low, mod-pow-add, shr-shr}
use Rattle.bits.specs.Bits.{all_bits, number_from, number_of, bits_of}
use Rattle.bits.proofs.AllBits.{all_bits_head, all_bits-tail, all_bits-bits_of}

-- (a*2 + b)*p is a*(p*2) + b*p
shift : (a b p n : ℕ) → (a * 2 + b) * p + n ≡ a * (p * 2) + (b * p + n)
shift a b p n =
    ap (λ (x : ℕ). x + n) (add-mul (a * 2) b p ∙ ap (λ (x : ℕ). x + b * p) (mul_assoc a 2 p ∙ ap (λ (x : ℕ). a * x) (mul_comm 2 p)))
    ∙ add_assoc (a * (p * 2)) (b * p) n

-- the digits that come before stand in the places above
pub number_from_place : (a : ℕ) (s : List ℕ) → number_from a s ≡ a * 2 ^ length s + number_of s
unfolding number_from
number_from_place a [] = omega arith
number_from_place a (b ∷ s) =
    number_from_place (a * 2 + b) s ∙ shift a b (2 ^ length s) (number_of s)
    ∙ ap₂ (λ (x y : ℕ). a * x + y) (sym (pow-suc 2 (length s))) (sym (ap (λ (x : ℕ). number_from x s) (zero-add b) ∙ number_from_place b s))

pub number_of-cons : (b : ℕ) (s : List ℕ) → number_of (b ∷ s) ≡ b * 2 ^ length s + number_of s
unfolding number_from
number_of-cons b s = ap (λ (x : ℕ). number_from x s) (zero-add b) ∙ number_from_place b s

pub number_from-append : (a : ℕ) (u v : List ℕ) → number_from a (u ++ v) ≡ number_from (number_from a u) v
unfolding number_from
number_from-append a [] v = refl
number_from-append a (b ∷ u) v = number_from-append (a * 2 + b) u v

-- one more bit at the end
pub more_below : (i n b : ℕ) → n < 2 ^ i → b < 2 → n * 2 + b < 2 ^ (i + 1)
more_below i n b h k = rw (add-one, pow-suc) (digits_lt h k)

pub number_of_below : (s : List ℕ) → T (all_bits s) → number_of s < 2 ^ length s
unfolding number_from
number_of_below [] h = lit< tt
number_of_below (b ∷ s) h =
    rw (number_of-cons, pow-suc, mul_comm _ 2) (digits_lt (all_bits_head b s h) (number_of_below s (all_bits-tail b s h)))

pub bits_of-zero : (x : ℕ) → bits_of 0 x ≡ []
unfolding bits_of
bits_of-zero x = refl

pub bits_of-suc : (k x : ℕ) → bits_of (suc k) x ≡ x / 2 ^ k % 2 ∷ bits_of k x
unfolding bits_of
bits_of-suc k x = refl

pub length-bits_of : (k x : ℕ) → length (bits_of k x) ≡ k
unfolding bits_of
length-bits_of zero x = refl
length-bits_of (suc k) x = ap suc (length-bits_of k x)

from_bits_of : (a k x : ℕ) → number_from a (bits_of k x) ≡ a * 2 ^ k + x % 2 ^ k
unfolding bits_of number_from
from_bits_of a zero x = omega arith
from_bits_of a (suc k) x =
    from_bits_of (a * 2 + x / 2 ^ k % 2) k x ∙ shift a (x / 2 ^ k % 2) (2 ^ k) (x % 2 ^ k)
    ∙ ap₂ (λ (p r : ℕ). a * p + r) (sym (pow-suc 2 k)) (sym (ap (λ (n : ℕ). x % 2 ^ n) (sym (one-add k)) ∙ mod-pow-add x 1 k))

pub number_of-bits_of : (k x : ℕ) → number_of (bits_of k x) ≡ x % 2 ^ k
number_of-bits_of k x = from_bits_of 0 k x ∙ omega arith

pub number_bits : (k x : ℕ) → x < 2 ^ k → number_of (bits_of k x) ≡ x
number_bits k x h = number_of-bits_of k x ∙ mod-eq_of_lt h

bits_of_from : (a : ℕ) (s : List ℕ) → T (all_bits s) → bits_of (length s) (number_from a s) ≡ s
unfolding bits_of number_from
bits_of_from a [] h = refl
bits_of_from a (b ∷ s) h =
    let small : b < 2 = all_bits_head b s h in
    let rest : T (all_bits s) = all_bits-tail b s h in
    let digit : (a * 2 + b) % 2 ≡ b = omega arith in
    ap₂ ◌∷◌
    (ap (λ (x : ℕ). x / 2 ^ length s % 2) (number_from_place (a * 2 + b) s)
    ∙ ap (λ (x : ℕ). x % 2) (high (a * 2 + b) (length s) (number_of_below s rest)) ∙ digit)
    (bits_of_from (a * 2 + b) s rest)

pub bits_of-number_of : (k : ℕ) (s : List ℕ) → T (all_bits s) → length s ≡ k → bits_of k (number_of s) ≡ s
bits_of-number_of k s h e = rw (← e) (bits_of_from 0 s h)

-- the digits from place k on, and then the lowest k
pub bits_of-add : (j k x : ℕ) → bits_of (j + k) x ≡ bits_of j (x / 2 ^ k) ++ bits_of k x
unfolding bits_of
bits_of-add zero k x = rw zero-add
bits_of-add (suc j) k x =
    rw suc-add
    (ap₂ ◌∷◌ (ap (λ (y : ℕ). y % 2) (ap (λ (i : ℕ). x / 2 ^ i) (add_comm j k) ∙ sym (shr-shr x k j))) (bits_of-add j k x))

-- digits above the lowest k do not count
pub bits_of-mod : (k x : ℕ) → bits_of k (x % 2 ^ k) ≡ bits_of k x
bits_of-mod k x = ap (bits_of k) (sym (number_of-bits_of k x)) ∙ bits_of-number_of k (bits_of k x) (all_bits-bits_of k x) (length-bits_of k x)

-- the digits of a, and then the k digits of b
pub bits_of_join : (j k a b : ℕ) → b < 2 ^ k → bits_of (j + k) (a * 2 ^ k + b) ≡ bits_of j a ++ bits_of k b
bits_of_join j k a b h =
    bits_of-add j k (a * 2 ^ k + b)
    ∙ ap₂ ◌++◌ (ap (bits_of j) (high a k h)) (sym (bits_of-mod k (a * 2 ^ k + b)) ∙ ap (bits_of k) (low a k h))
