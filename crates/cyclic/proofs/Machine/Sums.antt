-- The number of the sum of two polynomials is the XOR of the two numbers, and the digits of the XOR are the sum of theirs. Assumes nothing.
use Rattle.std.proofs.Common.{◌≡◌, ℕ, zero, suc, ◌+◌, ◌*◌, ◌/◌, ◌%◌, ◌^◌, ◌<◌, T, List, [], ◌∷◌, length, sym, refl, ap, ◌∙◌, subst, ap₂, mod-lt, arith, lit<}
use native.Mathlib.Nat.{suc_inj}
use lib.Bits.{bit_xor, xor_block, xor_shr, xor_mod}
use Rattle.bits.specs.Bits.{all_bits, number_from, number_of, bits_of}
use Rattle.bits.proofs.AllBits.{all_bits_head, all_bits-tail}
use Rattle.bits.proofs.Numbers.{number_of-cons, number_of_below}
use Rattle.bits.proofs.Xor.{bit_xor_bits}
use Rattle.formats.specs.Polynomial.{sum}
use Rattle.cyclic.proofs.Lists.{length-sum}

-- the number of a sum is the XOR of the two numbers
pub value_sum : (u v : List ℕ) → T (all_bits u) → T (all_bits v) → length u ≡ length v → number_of (sum u v) ≡ bit_xor (number_of u) (number_of v)
unfolding sum number_from
value_sum [] [] hu hv e = refl
value_sum [] (b ∷ v) hu hv e = absurd (omega arith)
value_sum (a ∷ u) [] hu hv e = absurd (omega arith)
value_sum (a ∷ u) (b ∷ v) hu hv e =
    let e' : length u ≡ length v = suc_inj e in
    let k = length u in
    number_of-cons ((a + b) % 2) (sum u v)
    ∙ ap₂ (λ (j x : ℕ). (a + b) % 2 * 2 ^ j + x) (length-sum u v e') (value_sum u v (all_bits-tail a u hu) (all_bits-tail b v hv) e')
    ∙ ap (λ (x : ℕ). x * 2 ^ k + bit_xor (number_of u) (number_of v)) (sym (bit_xor_bits a b (all_bits_head a u hu) (all_bits_head b v hv)))
    ∙ sym (xor_block k a b (number_of u) (number_of v) (number_of_below u (all_bits-tail a u hu))
    (subst (λ (j : ℕ). number_of v < 2 ^ j) (sym e') (number_of_below v (all_bits-tail b v hv))))
    ∙ ap₂ bit_xor (sym (number_of-cons a u)) (ap (λ (j : ℕ). b * 2 ^ j + number_of v) e' ∙ sym (number_of-cons b v))

-- a digit of the XOR
xor_digit : (k a b : ℕ) → bit_xor a b / 2 ^ k % 2 ≡ (a / 2 ^ k % 2 + b / 2 ^ k % 2) % 2
xor_digit k a b =
    let x = a / 2 ^ k in
    let y = b / 2 ^ k in
    ap (λ (z : ℕ). z % 2) (xor_shr a b k) ∙ xor_mod x y 1 ∙ bit_xor_bits (x % 2) (y % 2) (mod-lt x (lit< tt)) (mod-lt y (lit< tt))

-- the digits of the XOR of two numbers are the sum of theirs
pub bits_of-xor : (k a b : ℕ) → bits_of k (bit_xor a b) ≡ sum (bits_of k a) (bits_of k b)
unfolding sum bits_of
bits_of-xor zero a b = refl
bits_of-xor (suc k) a b = ap₂ ◌∷◌ (xor_digit k a b) (bits_of-xor k a b)
