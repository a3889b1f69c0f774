-- The registers of a division, n bits each: a space whose shift is a step of the division, so that the remainder of v
-- is v times 1 in it.
-- Assumes nothing.
use Rattle.std.proofs.Common.{◌≡◌, ℕ, zero, suc, ◌+◌, ◌-◌, ◌%◌, ◌<◌, List, [], ◌∷◌, ◌++◌, length, take, drop, sym, refl, ap, ◌∙◌, ap₂, arith, lit<, length-append, length-drop, take-append-drop}
use mathlib.Core.HLevel.{is_prop→PathP}
use native.Mathlib.Nat.{ℕ_set}
use lib.Dec.{T_prop}
use Rattle.bits.specs.Bits.{all_bits}
use Rattle.formats.specs.Polynomial.{sum, times_bit}
use Rattle.cyclic.specs.Remainder.{reduced, step, remainder_from, remainder}
use Rattle.bits.proofs.AllBits.{all_bits-nil, all_bits-cons, all_bits_head, all_bits-tail, all_bits-append, all_bits-drop}
use Rattle.cyclic.proofs.Lists.{Bits, zeros, length-zeros, bits_zeros, bits_sum, by_bit, length-sum, sum_assoc, sum_comm, sum_zeros, sum_self, sum-append}
use Rattle.cyclic.proofs.Space.{Space, swap_of, run, times, pick}

-- n bits
pub record Reg (n : ℕ) : Type 0 where
  pub of : List ℕ
  pub bits : Bits of
  pub size : length of ≡ n

-- two registers with the same bits are equal
pub same_bits : {n : ℕ} {a b : Reg n} → a.of ≡ b.of → a ≡ b
same_bits {n} {a} {b} p =
    λ i. record {
      of = p i;
      bits = is_prop→PathP (λ j. Bits (p j)) (λ j. T_prop (all_bits (p j))) a.bits b.bits i;
      size = is_prop→PathP (λ j. length (p j) ≡ n) (λ j. ℕ_set (length (p j)) n) a.size b.size i;
    }

-- zeros on the right add nothing
pub zeros_right : (v : List ℕ) (n : ℕ) → Bits v → length v ≡ n → sum v (zeros n) ≡ v
zeros_right v n b h = sum_comm v (zeros n) ∙ ap (λ (k : ℕ). sum (zeros k) v) (sym h) ∙ sum_zeros v b

-- the first bit decides whether the divisor is added
pub step_is : (t s : List ℕ) (c b : ℕ) → c < 2 → b < 2 → Bits s → suc (length s) ≡ length t
    → step t (c ∷ s) b ≡ sum (s ++ (b ∷ [])) (times_bit c t)
unfolding step
step_is t s c b p q h l =
    let shifted = s ++ (b ∷ []) in
    let fits : length shifted ≡ length t = length-append s (b ∷ []) ∙ omega arith in
    by_bit (λ (c : ℕ). reduced c t shifted ≡ sum shifted (times_bit c t))
    (sym (zeros_right shifted (length t) (all_bits-append s (b ∷ []) h (all_bits-cons b [] q all_bits-nil)) fits)) refl c p

-- a step keeps bits
pub bits_step : (t s : List ℕ) (b : ℕ) → b < 2 → Bits s → Bits (step t s b)
unfolding step
bits_step t [] b q h = h
bits_step t (zero ∷ s) b q h = all_bits-append s (b ∷ []) (all_bits-tail zero s h) (all_bits-cons b [] q all_bits-nil)
bits_step t (suc c ∷ s) b q h = bits_sum (s ++ (b ∷ [])) t

-- and their number
pub length-step : (t s : List ℕ) (b : ℕ) → length s ≡ length t → length (step t s b) ≡ length s
unfolding step
length-step t [] b l = refl
length-step t (zero ∷ s) b l = length-append s (b ∷ []) ∙ omega arith
length-step t (suc c ∷ s) b l =
    let shifted : length (s ++ (b ∷ [])) ≡ suc (length s) = length-append s (b ∷ []) ∙ omega arith in
    length-sum (s ++ (b ∷ [])) t (shifted ∙ l) ∙ shifted

-- the sum of two bits times t
times_bit-sum : (t : List ℕ) (a b : ℕ) → Bits t → a < 2 → b < 2 → times_bit ((a + b) % 2) t ≡ sum (times_bit a t) (times_bit b t)
times_bit-sum t a b h p q =
    let n = length t in
    by_bit (λ (a : ℕ). times_bit ((a + b) % 2) t ≡ sum (times_bit a t) (times_bit b t))
    (by_bit (λ (b : ℕ). times_bit ((0 + b) % 2) t ≡ sum (zeros n) (times_bit b t))
    (sym (zeros_right (zeros n) n (bits_zeros n) (length-zeros n))) (sym (sum_zeros t h)) b q)
    (by_bit (λ (b : ℕ). times_bit ((1 + b) % 2) t ≡ sum t (times_bit b t)) (sym (zeros_right t n h refl)) (sym (sum_self t)) b q)
    a p

-- a step commutes with sums
pub step_sum : (t s r : List ℕ) (b c : ℕ) → Bits t → Bits s → Bits r → length s ≡ length t → length r ≡ length t → b < 2 → c < 2
    → step t (sum s r) ((b + c) % 2) ≡ sum (step t s b) (step t r c)
unfolding step sum
step_sum t [] r b c ht hs hr l m p q = refl
step_sum t (x ∷ s) [] b c ht hs hr l m p q = absurd (omega arith)
step_sum t (x ∷ s) (y ∷ r) b c ht hs hr l m p q =
    let xb = all_bits_head x s hs in
    let yb = all_bits_head y r hr in
    let same : length s ≡ length r = omega arith in
    step_is t (sum s r) ((x + y) % 2) ((b + c) % 2) (omega arith) (omega arith) (bits_sum s r) (ap suc (length-sum s r same) ∙ l)
    ∙ ap₂ sum (sym (sum-append s r (b ∷ []) (c ∷ []) same)) (times_bit-sum t x y ht xb yb)
    ∙ swap_of sum sum_assoc sum_comm (s ++ (b ∷ [])) (r ++ (c ∷ [])) (times_bit x t) (times_bit y t)
    ∙ sym (ap₂ sum (step_is t s x b xb p (all_bits-tail x s hs) l) (step_is t r y c yb q (all_bits-tail y r hr) m))

-- no bit set
abbrev pub none : (n : ℕ) → Reg n
none n = record { of = zeros n; bits = bits_zeros n; size = length-zeros n }

-- a bit that comes in stands behind what a step with 0 leaves
step_last : (k : ℕ) (t s : List ℕ) (b : ℕ) → Bits t → Bits s → length t ≡ suc k → length s ≡ suc k → b < 2
    → step t s b ≡ sum (step t s 0) (zeros k ++ (b ∷ []))
unfolding step
step_last k t s b ht hs l m q =
    let n = suc k in
    ap₂ (step t) (sym (zeros_right s n hs m)) (omega arith)
    ∙ step_sum t s (zeros n) 0 b ht hs (bits_zeros n) (m ∙ sym l) (length-zeros n ∙ sym l) (lit< tt) q

-- the registers of the division by 1 ∷ t
abbrev pub Mod : (k : ℕ) → Reg (suc k) → Space
Mod k t =
    record {
      Car = Reg (suc k);
      nil = none (suc k);
      add = λ a b. record {
        of = sum a.of b.of;
        bits = bits_sum a.of b.of;
        size = length-sum a.of b.of (a.size ∙ sym b.size) ∙ a.size;
      };
      X = λ s. record {
        of = step t.of s.of 0;
        bits = bits_step t.of s.of 0 (lit< tt) s.bits;
        size = length-step t.of s.of 0 (s.size ∙ sym t.size) ∙ s.size;
      };
      assoc = λ a b c. same_bits (sum_assoc a.of b.of c.of);
      comm = λ a b. same_bits (sum_comm a.of b.of);
      unit = λ a. same_bits (ap (λ (n : ℕ). sum (zeros n) a.of) (sym a.size) ∙ sum_zeros a.of a.bits);
      self = λ a. same_bits (sum_self a.of ∙ ap zeros a.size);
      X_add = λ a b. same_bits
          (step_sum t.of a.of b.of 0 0 t.bits a.bits b.bits (a.size ∙ sym t.size) (b.size ∙ sym t.size) (lit< tt) (lit< tt));
    }

-- 1, as a register
abbrev pub one : (k : ℕ) → Reg (suc k)
one k =
    record {
      of = zeros k ++ (1 ∷ []);
      bits = all_bits-append (zeros k) (1 ∷ []) (bits_zeros k) (all_bits-cons 1 [] (lit< tt) all_bits-nil);
      size = length-append (zeros k) (1 ∷ []) ∙ omega (arith, length-zeros k);
    }

-- one step of the division, as one of the space
step_run : (k : ℕ) (t s : Reg (suc k)) (b : ℕ) → b < 2
    → step t.of s.of b ≡ ((Mod k t).add ((Mod k t).X s) (pick (Mod k t) b (one k))).of
step_run k t s b h =
    by_bit (λ (b : ℕ). step t.of s.of b ≡ ((Mod k t).add ((Mod k t).X s) (pick (Mod k t) b (one k))).of)
    (sym (zeros_right (step t.of s.of 0) (suc k) ((Mod k t).X s).bits ((Mod k t).X s).size))
    (step_last k t.of s.of 1 t.bits s.bits t.size s.size (lit< tt)) b h

-- the division is a run from its register
pub run_is : (k : ℕ) (t s : Reg (suc k)) (v : List ℕ) → Bits v → remainder_from t.of s.of v ≡ (run (Mod k t) (one k) s v).of
unfolding remainder_from run
run_is k t s [] h = refl
run_is k t s (b ∷ v) h =
    ap (λ (r : List ℕ). remainder_from t.of r v) (step_run k t s b (all_bits_head b v h))
    ∙ run_is k t ((Mod k t).add ((Mod k t).X s) (pick (Mod k t) b (one k))) v (all_bits-tail b v h)

-- d is a polynomial of degree k, its coefficients 0 and 1
pub record Monic (k : ℕ) (d : List ℕ) : Type 0 where
  pub bits : Bits d
  pub size : length d ≡ suc k
  pub leads : take 1 d ≡ 1 ∷ []

-- d, its first coefficient written out
pub leading : {k : ℕ} {d : List ℕ} → Monic k d → d ≡ 1 ∷ drop 1 d
leading {d} m = sym (take-append-drop 1 d) ∙ ap (λ (l : List ℕ). l ++ drop 1 d) m.leads

module _ (k : ℕ) (d : List ℕ) (m : Monic (suc k) d) where
  -- d without its first coefficient
  abbrev pub tail : Reg (suc k)
  tail = record { of = drop 1 d; bits = all_bits-drop 1 d m.bits; size = length-drop 1 d ∙ omega (arith, m.size) }

  -- the space of the remainders by d
  abbrev pub By : Space
  By = Mod k tail

  -- v times 1 there: the remainder of v
  abbrev pub rem : List ℕ → Reg (suc k)
  rem v = times By v (one k)

  -- it is so
  pub remainder_is : (v : List ℕ) → Bits v → remainder d v ≡ (rem v).of
  unfolding remainder
  remainder_is v h =
      let degree : length d - 1 ≡ suc k = omega (arith, m.size) in
      ap (λ (n : ℕ). remainder_from (drop 1 d) (zeros n) v) degree ∙ run_is k tail (none (suc k)) v h
