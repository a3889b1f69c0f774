-- A step of the division, and a whole run, on a register held as a number is that on the list of its bits, for every degree.
-- Assumes nothing.
use Rattle.std.proofs.Common.{◌≡◌, ℕ, zero, suc, ◌+◌, ◌*◌, ◌/◌, ◌%◌, ◌^◌, ◌<◌, ◌≤◌, Bool, T, List, [], ◌∷◌, ◌++◌, length, sym, refl, ap, ◌∙◌, ap₂, subst₂, mod-eq_of_lt, mul_assoc, pow-suc, arith, length-append, le-leb}
use borrow.Author.Tests.{lt-leb}
use lib.Bits.{bit_xor, xor_block}
use lib.Pow.{split}
use Rattle.bits.specs.Bits.{all_bits, number_from, number_of, bits_of}
use Rattle.bits.proofs.AllBits.{all_bits-nil, all_bits-cons, all_bits_head, all_bits-tail, all_bits-append, all_bits-bits_of}
use Rattle.bits.proofs.Numbers.{number_from-append, number_of-cons, number_of_below, length-bits_of, number_of-bits_of}
use Rattle.formats.specs.Polynomial.{sum}
use Rattle.cyclic.specs.Machine.{step_v, reduced_v}
use Rattle.cyclic.specs.Remainder.{step, remainder_from}
use Rattle.cyclic.proofs.Registers.{bits_step, length-step}
use Rattle.cyclic.proofs.Machine.Sums.{value_sum}

-- the register after a run of bits, as a number
unfoldable pub run_v : ℕ → ℕ → ℕ → List ℕ → ℕ
run_v d p v [] = v
run_v d p v (b ∷ s) = run_v d p (step_v d p v b) s

-- the place of the divisor's highest power is not reached, or it is
pub step_v_below : (d p v b : ℕ) → v * 2 + b < p → step_v d p v b ≡ v * 2 + b
unfolding step_v
step_v_below d p v b h = ap (λ (t : Bool). reduced_v t d (v * 2 + b)) (lt-leb p (v * 2 + b) h)

pub step_v_reached : (d p v b : ℕ) → p ≤ v * 2 + b → step_v d p v b ≡ bit_xor (v * 2 + b) d
unfolding step_v
step_v_reached d p v b h = ap (λ (t : Bool). reduced_v t d (v * 2 + b)) (le-leb p (v * 2 + b) h)

-- the register that is shifted has bits only, and one more
length-shifted : (s : List ℕ) (b : ℕ) → length (s ++ (b ∷ [])) ≡ suc (length s)
length-shifted s b = length-append s (b ∷ []) ∙ omega arith

all_bits-shifted : (s : List ℕ) (b : ℕ) → T (all_bits s) → b < 2 → T (all_bits (s ++ (b ∷ [])))
all_bits-shifted s b hs hb = all_bits-append s (b ∷ []) hs (all_bits-cons b [] hb all_bits-nil)

-- the number of the register that is shifted, with the bit that goes out still there
shifted : (c : ℕ) (s : List ℕ) (b : ℕ) → number_of (c ∷ s) * 2 + b ≡ c * 2 ^ suc (length s) + number_of (s ++ (b ∷ []))
unfolding number_from
shifted c s b =
    let p = 2 ^ length s in
    let place : number_of (c ∷ s) ≡ c * p + number_of s = number_of-cons c s in
    let more : number_of (s ++ (b ∷ [])) ≡ number_of s * 2 + b = number_from-append 0 s (b ∷ []) in
    let weight : c * 2 ^ suc (length s) ≡ c * p * 2 = ap (λ (x : ℕ). c * x) (pow-suc 2 (length s)) ∙ sym (mul_assoc c p 2) in
    omega arith

-- a 0 goes out
step-zero : (d : ℕ) (s : List ℕ) (b : ℕ) → T (all_bits s) → b < 2
    → number_of (s ++ (b ∷ [])) ≡ step_v d (2 ^ suc (length s)) (number_of (zero ∷ s)) b
step-zero d s b hs hb =
    let n = number_of (s ++ (b ∷ [])) in
    let whole : number_of (zero ∷ s) * 2 + b ≡ zero * 2 ^ suc (length s) + n = shifted zero s b in
    let below : n < 2 ^ length (s ++ (b ∷ [])) = number_of_below (s ++ (b ∷ [])) (all_bits-shifted s b hs hb) in
    let fits : n < 2 ^ suc (length s) = rw (length-shifted s b) at below in
    sym (step_v_below d (2 ^ suc (length s)) (number_of (zero ∷ s)) b (omega arith) ∙ omega arith)

-- a 1 goes out, and the divisor 1 ∷ t is added
step-one : (t s : List ℕ) (b : ℕ) → T (all_bits t) → T (all_bits s) → length t ≡ suc (length s) → b < 2
    → number_of (sum (s ++ (b ∷ [])) t) ≡ step_v (number_of (1 ∷ t)) (2 ^ suc (length s)) (number_of (1 ∷ s)) b
step-one t s b ht hs e hb =
    let k = suc (length s) in
    let n = number_of (s ++ (b ∷ [])) in
    let bits : T (all_bits (s ++ (b ∷ []))) = all_bits-shifted s b hs hb in
    let whole : number_of (1 ∷ s) * 2 + b ≡ 1 * 2 ^ k + n = shifted 1 s b in
    let divisor : number_of (1 ∷ t) ≡ 1 * 2 ^ k + number_of t = number_of-cons 1 t ∙ ap (λ (j : ℕ). 1 * 2 ^ j + number_of t) e in
    let fits : n < 2 ^ k = rw (length-shifted s b) at (number_of_below (s ++ (b ∷ [])) bits) in
    let fits-t : number_of t < 2 ^ k = rw e at (number_of_below t ht) in
    let gone : bit_xor (1 * 2 ^ k + n) (1 * 2 ^ k + number_of t) ≡ 0 * 2 ^ k + bit_xor n (number_of t) = xor_block k 1 1 n (number_of t) fits fits-t in
    value_sum (s ++ (b ∷ [])) t bits ht (length-shifted s b ∙ sym e)
    ∙ sym (step_v_reached (number_of (1 ∷ t)) (2 ^ k) (number_of (1 ∷ s)) b (omega arith)
    ∙ ap₂ bit_xor whole divisor ∙ gone ∙ omega arith)

-- one step, for every degree: the divisor is 1 ∷ t
pub step_value : (t s : List ℕ) (b : ℕ) → T (all_bits t) → T (all_bits s) → length t ≡ length s → b < 2
    → number_of (step t s b) ≡ step_v (number_of (1 ∷ t)) (2 ^ length s) (number_of s) b
unfolding step step_v number_from
step_value [] [] zero ht hs e hb = refl
step_value [] [] (suc zero) ht hs e hb = refl
step_value [] [] (suc (suc b)) ht hs e hb = absurd (omega arith)
step_value (a ∷ t) [] b ht hs e hb = absurd (omega arith)
step_value t (zero ∷ s) b ht hs e hb = step-zero (number_of (1 ∷ t)) s b (all_bits-tail zero s hs) hb
step_value t (suc zero ∷ s) b ht hs e hb = step-one t s b ht (all_bits-tail 1 s hs) e hb
step_value t (suc (suc c) ∷ s) b ht hs e hb = absurd (omega (arith, all_bits_head (suc (suc c)) s hs))

-- a whole run, for every degree
pub run_value : (t s v : List ℕ) → T (all_bits t) → T (all_bits s) → T (all_bits v) → length t ≡ length s
    → number_of (remainder_from t s v) ≡ run_v (number_of (1 ∷ t)) (2 ^ length s) (number_of s) v
unfolding remainder_from run_v
run_value t s [] ht hs hv e = refl
run_value t s (b ∷ v) ht hs hv e =
    let hb = all_bits_head b v hv in
    let e' = length-step t s b (sym e) in
    run_value t (step t s b) v ht (bits_step t s b hb hs) (all_bits-tail b v hv) (e ∙ sym e')
    ∙ ap₂ (λ (k x : ℕ). run_v (number_of (1 ∷ t)) (2 ^ k) x v) e' (step_value t s b ht hs e hb)

-- The same by numbers: a divisor d of degree k, and a register x below 2^k.
module _ (k d x : ℕ) (degree : d / 2 ^ k ≡ 1) (fits : x < 2 ^ k) where
  divisor_number : number_of (1 ∷ bits_of k d) ≡ d
  divisor_number =
      number_of-cons 1 (bits_of k d) ∙ ap₂ (λ (j y : ℕ). 1 * 2 ^ j + y) (length-bits_of k d) (number_of-bits_of k d)
      ∙ ap (λ (q : ℕ). q * 2 ^ k + d % 2 ^ k) (sym degree) ∙ split d k

  register_number : number_of (bits_of k x) ≡ x
  register_number = number_of-bits_of k x ∙ mod-eq_of_lt fits

  same_length : length (bits_of k d) ≡ length (bits_of k x)
  same_length = length-bits_of k d ∙ sym (length-bits_of k x)

  pub step_number : (b : ℕ) → b < 2 → step_v d (2 ^ k) x b ≡ number_of (step (bits_of k d) (bits_of k x) b)
  step_number b hb =
      sym (step_value (bits_of k d) (bits_of k x) b (all_bits-bits_of k d) (all_bits-bits_of k x) same_length hb
      ∙ ap₂ (λ (e j : ℕ). step_v e (2 ^ j) (number_of (bits_of k x)) b) divisor_number (length-bits_of k x)
      ∙ ap (λ (y : ℕ). step_v d (2 ^ k) y b) register_number)

  pub step_fits : (b : ℕ) → b < 2 → step_v d (2 ^ k) x b < 2 ^ k
  step_fits b hb =
      let after = step (bits_of k d) (bits_of k x) b in
      subst₂ (λ (y j : ℕ). y < 2 ^ j) (sym (step_number b hb)) (length-step (bits_of k d) (bits_of k x) b (sym same_length) ∙ length-bits_of k x)
      (number_of_below after (bits_step (bits_of k d) (bits_of k x) b hb (all_bits-bits_of k x)))

  pub run_number : (v : List ℕ) → T (all_bits v) → run_v d (2 ^ k) x v ≡ number_of (remainder_from (bits_of k d) (bits_of k x) v)
  run_number v hv =
      sym (run_value (bits_of k d) (bits_of k x) v (all_bits-bits_of k d) (all_bits-bits_of k x) hv same_length
      ∙ ap₂ (λ (e j : ℕ). run_v e (2 ^ j) (number_of (bits_of k x)) v) divisor_number (length-bits_of k x)
      ∙ ap (λ (y : ℕ). run_v d (2 ^ k) y v) register_number)
