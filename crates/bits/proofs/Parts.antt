-- The first elements of a list and the rest, the list from a place on, and the first k bits as a number. Assumes nothing.
use mathlib.Core.Path.{◌≡◌, sym, ap, ◌∙◌}
use mathlib.Core.List.{List, ◌++◌}
use Prim.Native.Nat.{ℕ, ◌+◌, ◌^◌, ◌≤◌, ◌<◌}
use native.Mathlib.Nat.{lt_of_lt_of_le}
use native.Mathlib.Omega.{arith}
use lib.Dec.{T}
use lib.ListN.{length, take, drop, length-take}
use lib.Pow.{pow_mono}
use lib.Seq.{take_at, drop_at, drop-drop, length-take-le}
use Rattle.bits.specs.Bits.{all_bits, number_of, bits_of}
use Rattle.bits.proofs.AllBits.{all_bits-take}
use Rattle.bits.proofs.Numbers.{length-bits_of, number_of_below, number_bits, bits_of-number_of}

-- p stands in front of s, and then the rest
module _ (p rest s : List ℕ) (i : ℕ) (size : length p ≡ i) (e : s ≡ p ++ rest) where
  pub front_is : take i s ≡ p
  front_is = ap (take i) e ∙ take_at p rest i size

  pub rest_is : drop i s ≡ rest
  rest_is = ap (drop i) e ∙ drop_at p rest i size

-- place j is k after place i
pub drop_from : (i k j : ℕ) (s : List ℕ) → i + k ≡ j → drop j s ≡ drop k (drop i s)
drop_from i k j s e = ap (λ (n : ℕ). drop n s) (sym e) ∙ sym (drop-drop k i s)

pub front_below : (k : ℕ) (s : List ℕ) → T (all_bits s) → number_of (take k s) < 2 ^ k
front_below k s h =
    lt_of_lt_of_le (number_of_below (take k s) (all_bits-take k s h)) (pow_mono {i = length (take k s)} {j = k} (omega (arith, length-take k s)))

pub front_bits : (k : ℕ) (s : List ℕ) → T (all_bits s) → k ≤ length s → bits_of k (number_of (take k s)) ≡ take k s
front_bits k s h l = bits_of-number_of k (take k s) (all_bits-take k s h) (length-take-le k s l)

-- the k bits of a number in front
pub front_number : (k x : ℕ) (rest s : List ℕ) → s ≡ bits_of k x ++ rest → x < 2 ^ k → number_of (take k s) ≡ x
front_number k x rest s e h = ap number_of (front_is (bits_of k x) rest s k (length-bits_of k x) e) ∙ number_bits k x h
