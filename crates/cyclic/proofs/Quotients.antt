-- Division with remainder, into any space: a remainder times e is the dividend times e plus the quotient times the
-- divisor times e. What is divisible, the remainder of a remainder, and the remainder of a short list follow.
-- Assumes nothing.
use Rattle.std.proofs.Common.{◌≡◌, ℕ, suc, ◌-◌, ◌<◌, List, [], ◌∷◌, ◌++◌, length, drop, sym, refl, ap, ◌∙◌, ap₂, append_assoc, append-nil, arith, lit<, length-append}
use native.Mathlib.Nat.{suc_inj}
use Rattle.formats.specs.Polynomial.{sum, times_bit}
use Rattle.cyclic.specs.Remainder.{step, remainder_from, remainder}
use Rattle.bits.proofs.AllBits.{all_bits-nil, all_bits-cons, all_bits_head, all_bits-tail}
use Rattle.cyclic.proofs.Lists.{Bits, zeros, length-zeros, bits_zeros, last_split, sum_self}
use Rattle.cyclic.proofs.Space.{Space, times, pow, times_none, unit_right, swap_middle, times-append, times-add, times-sum, times_leading, pow-times, pow-sum, zeros-front, times-nil, equal_of_nil}
use Rattle.cyclic.proofs.Products.{length-times_bit, times_bit-times, times-zeros}
use Rattle.cyclic.proofs.Registers.{Reg, same_bits, Monic, leading, tail, rem, remainder_is, none, step_is, bits_step, length-step}

-- the bit that goes out next
abbrev first : List ℕ → ℕ
first [] = 0
first (c ∷ s) = c

-- the bits that go out while v comes in
unfoldable pub quotient_from : List ℕ → List ℕ → List ℕ → List ℕ
quotient_from t s [] = []
quotient_from t s (b ∷ v) = first s ∷ quotient_from t (step t s b) v

-- as many as come in
length-quotient : (t s v : List ℕ) → length (quotient_from t s v) ≡ length v
unfolding quotient_from
length-quotient t s [] = refl
length-quotient t s (b ∷ v) = ap suc (length-quotient t (step t s b) v)

-- they are bits
bits_quotient : (t s v : List ℕ) → Bits s → Bits v → Bits (quotient_from t s v)
unfolding quotient_from
bits_quotient t s [] hs hv = all_bits-nil
bits_quotient t [] (b ∷ v) hs hv =
    all_bits-cons 0 (quotient_from t (step t [] b) v) (lit< tt)
    (bits_quotient t (step t [] b) v (bits_step t [] b (all_bits_head b v hv) hs) (all_bits-tail b v hv))
bits_quotient t (c ∷ s) (b ∷ v) hs hv =
    all_bits-cons c (quotient_from t (step t (c ∷ s) b) v) (all_bits_head c s hs)
    (bits_quotient t (step t (c ∷ s) b) v (bits_step t (c ∷ s) b (all_bits_head b v hv) hs) (all_bits-tail b v hv))

module _ (M : Space) where
  open M use {Car, nil, add, X, unit, comm, assoc, self}

  -- one step: the shifted register times e, plus the bit that goes out times the divisor times e
  divided_step : (e : Car) (k : ℕ) (t s : List ℕ) (c b : ℕ) → Bits (c ∷ s) → b < 2 → length t ≡ suc k → length s ≡ k
      → times M (step t (c ∷ s) b) e ≡ add (times M (c ∷ (s ++ (b ∷ []))) e) (times M (c ∷ []) (times M (1 ∷ t) e))
  divided_step e k t s c b h q lt ls =
      let shifted = s ++ (b ∷ []) in
      let cb = all_bits_head c s h in
      let high = pow M (suc k) (times M (c ∷ []) e) in
      let A = times M shifted e in
      let D = times M (c ∷ []) (times M t e) in
      let size : length shifted ≡ suc k = length-append s (b ∷ []) ∙ omega arith in
      let whole : times M (c ∷ shifted) e ≡ add high A =
      times-append M (c ∷ []) shifted e ∙ ap (λ (n : ℕ). add (pow M n (times M (c ∷ []) e)) A) size in
      let divisor : times M (c ∷ []) (times M (1 ∷ t) e) ≡ add high D =
      ap (times M (c ∷ [])) (times_leading M t e ∙ ap (λ (n : ℕ). add (pow M n e) (times M t e)) lt)
      ∙ times-add M (c ∷ []) (pow M (suc k) e) (times M t e)
      ∙ ap (λ (x : Car). add x D) (sym (pow-times M (suc k) (c ∷ []) e)) in
      ap (λ (l : List ℕ). times M l e) (step_is t s c b cb q (all_bits-tail c s h) (ap suc ls ∙ sym lt))
      ∙ times-sum M shifted (times_bit c t) e (size ∙ sym (length-times_bit c t ∙ lt))
      ∙ ap (add A) (times_bit-times M t e c cb)
      ∙ sym (ap₂ add whole divisor ∙ swap_middle M high A high D ∙ ap (λ (x : Car). add x (add A D)) (self high) ∙ unit (add A D))

  -- the whole division, from the register s
  divided_from : (e : Car) (k : ℕ) (t s v : List ℕ) → Bits s → Bits v → length t ≡ suc k → length s ≡ suc k
      → times M (remainder_from t s v) e ≡ add (times M (s ++ v) e) (times M (quotient_from t s v) (times M (1 ∷ t) e))
  unfolding remainder_from quotient_from
  divided_from e k t s [] hs hv lt ls =
      ap (λ (l : List ℕ). times M l e) (sym (append-nil s)) ∙ sym (unit_right M (times M (s ++ []) e))
      ∙ ap (add (times M (s ++ []) e)) (sym (times_none M (times M (1 ∷ t) e)))
  divided_from e k t [] (b ∷ v) hs hv lt ls = absurd (omega arith)
  divided_from e k t (c ∷ s) (b ∷ v) hs hv lt ls =
      let own = times M (1 ∷ t) e in
      let next = step t (c ∷ s) b in
      let q = quotient_from t next v in
      let n = length v in
      let bb = all_bits_head b v hv in
      let x = times M (c ∷ (s ++ (b ∷ []))) e in
      let o = times M (c ∷ []) own in
      let W = times M v e in
      let Q = times M q own in
      let front : times M (next ++ v) e ≡ add (add (pow M n x) (pow M n o)) W =
      times-append M next v e
      ∙ ap (λ (y : Car). add (pow M n y) W) (divided_step e k t s c b hs bb lt (suc_inj ls))
      ∙ ap (λ (y : Car). add y W) (pow-sum M n x o) in
      let all : times M ((c ∷ s) ++ (b ∷ v)) e ≡ add (pow M n x) W =
      ap (λ (l : List ℕ). times M (c ∷ l) e) (sym (append_assoc s (b ∷ []) v)) ∙ times-append M (c ∷ (s ++ (b ∷ []))) v e in
      let out : times M (c ∷ q) own ≡ add (pow M n o) Q =
      times-append M (c ∷ []) q own ∙ ap (λ (j : ℕ). add (pow M j o) Q) (length-quotient t next v) in
      divided_from e k t next v (bits_step t (c ∷ s) b bb hs) (all_bits-tail b v hv) lt (length-step t (c ∷ s) b (ls ∙ sym lt) ∙ ls)
      ∙ ap (λ (y : Car). add y Q) front ∙ assoc (add (pow M n x) (pow M n o)) W Q
      ∙ swap_middle M (pow M n x) (pow M n o) W Q ∙ sym (ap₂ add all out)

-- a remainder has nothing shifted out: the bits just come in
shift_in : (t s v : List ℕ) → remainder_from t (zeros (length v) ++ s) v ≡ s ++ v
unfolding remainder_from step
shift_in t s [] = sym (append-nil s)
shift_in t s (b ∷ v) =
    ap (λ (l : List ℕ). remainder_from t l v) (append_assoc (zeros (length v)) s (b ∷ [])) ∙ shift_in t (s ++ (b ∷ [])) v
    ∙ append_assoc s (b ∷ []) v

-- u comes in first, then v
pub from_append : (t s u v : List ℕ) → remainder_from t s (u ++ v) ≡ remainder_from t (remainder_from t s u) v
unfolding remainder_from
from_append t s [] v = refl
from_append t s (b ∷ u) v = from_append t (step t s b) u v

-- the divisor 1 ∷ t, its last coefficient x, leaves nothing by itself
self_from : (t u : List ℕ) (x : ℕ) → t ≡ u ++ (x ∷ []) → remainder_from t (zeros (suc (length u))) (1 ∷ t) ≡ zeros (length t)
unfolding remainder_from step
self_from t u x h =
    ap (λ (l : List ℕ). remainder_from t (zeros (suc (length u))) (1 ∷ l)) h
    ∙ from_append t (zeros (suc (length u))) (1 ∷ u) (x ∷ [])
    ∙ ap (λ (s : List ℕ). remainder_from t s (x ∷ []))
    (ap (λ (s : List ℕ). remainder_from t s (1 ∷ u)) (sym (append-nil (zeros (suc (length u))))) ∙ shift_in t [] (1 ∷ u))
    ∙ ap (λ (l : List ℕ). sum l t) (sym h) ∙ sum_self t

module _ (k : ℕ) (d : List ℕ) (m : Monic (suc k) d) where
  -- as many bits as the degree are their own remainder
  pub short : (v : List ℕ) → length v ≡ suc k → remainder d v ≡ v
  unfolding remainder
  short v h =
      let start : zeros (length d - 1) ≡ zeros (length v) ++ [] =
      let same : length d - 1 ≡ length v = omega (arith, m.size) in
      ap zeros same ∙ sym (append-nil (zeros (length v))) in
      ap (λ (s : List ℕ). remainder_from (drop 1 d) s v) start ∙ shift_in (drop 1 d) [] v

  -- so the register of such bits is they themselves
  pub rem-short : (s : Reg (suc k)) → rem k d m s.of ≡ s
  rem-short s = same_bits (sym (remainder_is k d m s.of s.bits) ∙ short s.of s.size)

  -- what goes out at the top while v is divided by d
  abbrev pub quotient : List ℕ → List ℕ
  quotient v = quotient_from (drop 1 d) (zeros (suc k)) v

  -- the quotient is made of bits
  pub quotient_bits : (v : List ℕ) → Bits v → Bits (quotient v)
  quotient_bits v h = bits_quotient (drop 1 d) (zeros (suc k)) v (bits_zeros (suc k)) h

  -- d leaves nothing by itself
  pub by_itself : remainder d d ≡ zeros (suc k)
  unfolding remainder
  by_itself =
      let t = tail k d m in
      let l = last_split t.of k t.size in
      let degree : length d - 1 ≡ suc (length l.0) = omega (arith, m.size, l.3) in
      ap₂ (λ (n : ℕ) (v : List ℕ). remainder_from t.of (zeros n) v) degree (leading m)
      ∙ self_from t.of l.0 l.1 l.2 ∙ ap zeros t.size

  -- nor does its register
  pub rem_itself : rem k d m d ≡ none (suc k)
  rem_itself = same_bits (sym (remainder_is k d m d m.bits) ∙ by_itself)

  module _ (M : Space) (e : M.Car) (v : List ℕ) (h : Bits v) where
    -- division into a space
    pub divided : times M (remainder d v) e ≡ M.add (times M v e) (times M (quotient v) (times M d e))
    unfolding remainder
    divided =
        let t = tail k d m in
        let degree : length d - 1 ≡ suc k = omega (arith, m.size) in
        ap (λ (n : ℕ). times M (remainder_from (drop 1 d) (zeros n) v) e) degree
        ∙ divided_from M e k t.of (zeros (suc k)) v (bits_zeros (suc k)) h t.size (length-zeros (suc k))
        ∙ ap₂ (λ (x : M.Car) (l : List ℕ). M.add x (times M (quotient v) (times M l e))) (zeros-front M (suc k) v e) (sym (leading m))

    -- where d times e is nil, the remainder times e is the whole times e
    pub through : times M d e ≡ M.nil → times M (remainder d v) e ≡ times M v e
    through z =
        divided ∙ ap (M.add (times M v e)) (ap (times M (quotient v)) z ∙ times-nil M (quotient v)) ∙ unit_right M (times M v e)

    -- where the remainder is 0, the whole is the quotient times d
    pub whole : remainder d v ≡ zeros (suc k) → times M v e ≡ times M (quotient v) (times M d e)
    whole z =
        let q = times M (quotient v) (times M d e) in
        equal_of_nil M (times M v e) q (sym divided ∙ ap (λ (l : List ℕ). times M l e) z ∙ times-zeros M (suc k) e)
