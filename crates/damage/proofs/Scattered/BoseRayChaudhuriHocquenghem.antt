-- The bound of Bose, Ray-Chaudhuri and Hocquenghem, in any space in which n shifts do nothing and fewer fix only nil: a list of at most n
-- bits that is nothing times e at as many neighbouring powers of x as it has ones has none. Assumes nothing.
use Prim.Native.Nat.{ℕ, zero, suc, ◌+◌, ◌-◌, ◌*◌, ◌≤◌, ◌<◌}
use mathlib.Core.Path.{◌≡◌, refl, sym, ap, ap₂, ◌∙◌}
use mathlib.Core.List.{List, [], ◌∷◌}
use native.Mathlib.Nat.{mul-suc, add-suc}
use native.Mathlib.Omega.{arith}
use lib.ListN.{length}
use Rattle.bits.proofs.AllBits.{all_bits_head, all_bits-tail}
use Rattle.cyclic.proofs.Lists.{Bits}
use Rattle.cyclic.proofs.Space.{Space, times, pick, pow, pow-nil, pow-add, pow-sum, times_none, times_leading, zeros-front, equal_of_nil, swap_middle}
use Rattle.damage.proofs.Sums.{ones}
use Rattle.damage.proofs.Shifts.{shifts_nil}
use Rattle.damage.proofs.Scattered.Powers.{Power, power_pow}

module _ (M : Space) where
  open M use {Car, nil, add, unit, self}

  -- the sum of c(p) shifted p*j times, over the places p of the ones of v, counted from 0 at its end
  unfoldable weighted : (ℕ → Car) → ℕ → List ℕ → Car
  weighted c j [] = nil
  weighted c j (b ∷ v) = add (pick M b (pow M (length v * j) (c (length v)))) (weighted c j v)

  -- where all c(p) are e it is v times e, one shift being j
  weighted-same : (e : Car) (j : ℕ) (v : List ℕ) → Bits v → weighted (λ (p : ℕ). e) j v ≡ times (Power M j) v e
  unfolding weighted
  weighted-same e j [] h = sym (times_none (Power M j) e)
  weighted-same e j (zero ∷ v) h =
      unit (weighted (λ (p : ℕ). e) j v) ∙ weighted-same e j v (all_bits-tail zero v h) ∙ sym (zeros-front (Power M j) 1 v e)
  weighted-same e j (suc zero ∷ v) h =
      ap₂ add (sym (power_pow M j (length v) e)) (weighted-same e j v (all_bits-tail 1 v h)) ∙ sym (times_leading (Power M j) v e)
  weighted-same e j (suc (suc b) ∷ v) h = absurd (omega (arith, all_bits_head (suc (suc b)) v h))

  -- where v has no ones it is nil
  weighted-none : (c : ℕ → Car) (j : ℕ) (v : List ℕ) → Bits v → ones v ≡ 0 → weighted c j v ≡ nil
  unfolding weighted ones
  weighted-none c j [] h e = refl
  weighted-none c j (zero ∷ v) h e = unit (weighted c j v) ∙ weighted-none c j v (all_bits-tail zero v h) (omega arith)
  weighted-none c j (suc zero ∷ v) h e = absurd (omega arith)
  weighted-none c j (suc (suc b) ∷ v) h e = absurd (omega (arith, all_bits_head (suc (suc b)) v h))

  -- c(q) shifted q times and p times, added
  abbrev both : (ℕ → Car) → ℕ → ℕ → Car
  both c p q = add (pow M q (c q)) (pow M p (c q))

  -- one place of the two sums
  both_at : (c : ℕ → Car) (p j q : ℕ) → pow M (q * j) (both c p q) ≡ add (pow M (q * suc j) (c q)) (pow M p (pow M (q * j) (c q)))
  both_at c p j q =
      let swapped : q * j + p ≡ p + q * j = omega arith in
      pow-sum M (q * j) (pow M q (c q)) (pow M p (c q))
      ∙ ap₂ add
      (sym (pow-add M (q * j) q (c q)) ∙ ap (λ (k : ℕ). pow M k (c q)) (sym (mul-suc q j)))
      (sym (pow-add M (q * j) p (c q)) ∙ ap (λ (k : ℕ). pow M k (c q)) swapped ∙ pow-add M p (q * j) (c q))

  -- so the sum at j is that of c at j + 1 and that at j shifted p times, added
  weighted-both : (c : ℕ → Car) (p j : ℕ) (v : List ℕ) → Bits v → weighted (both c p) j v ≡ add (weighted c (suc j) v) (pow M p (weighted c j v))
  unfolding weighted
  weighted-both c p j [] h = sym (unit (pow M p nil) ∙ pow-nil M p)
  weighted-both c p j (zero ∷ v) h =
      unit (weighted (both c p) j v) ∙ weighted-both c p j v (all_bits-tail zero v h)
      ∙ sym (ap₂ add (unit (weighted c (suc j) v)) (ap (pow M p) (unit (weighted c j v))))
  weighted-both c p j (suc zero ∷ v) h =
      let q = length v in
      let now = pow M (q * j) (c q) in
      let next = pow M (q * suc j) (c q) in
      ap₂ add (both_at c p j q) (weighted-both c p j v (all_bits-tail 1 v h))
      ∙ swap_middle M next (pow M p now) (weighted c (suc j) v) (pow M p (weighted c j v))
      ∙ ap (add (add next (weighted c (suc j) v))) (sym (pow-sum M p now (weighted c j v)))
  weighted-both c p j (suc (suc b) ∷ v) h = absurd (omega (arith, all_bits_head (suc (suc b)) v h))

  module _ (n : ℕ) (round : (s : Car) → pow M n s ≡ s) (free : (k : ℕ) → 0 < k → k < n → (s : Car) → pow M k s ≡ s → s ≡ nil) where
    -- c(q) shifted q times is not c(q) shifted p times, q < p < n, unless c(q) is nil
    both-nil : (c : ℕ → Car) (p q : ℕ) → q < p → p < n → both c p q ≡ nil → c q ≡ nil
    both-nil c p q less below e =
        let x = pow M q (c q) in
        let apart : p - q + q ≡ p = omega arith in
        let fixed : pow M (p - q) x ≡ x =
        sym (pow-add M (p - q) q (c q)) ∙ ap (λ (k : ℕ). pow M k (c q)) apart ∙ sym (equal_of_nil M x (pow M p (c q)) e) in
        shifts_nil M n round (omega arith) q (c q) (free (p - q) (omega arith) (omega arith) x fixed)

    -- with no c(p) nil, sums that are nil at as many neighbouring j as v has ones leave it none
    no_ones : (v : List ℕ) → Bits v → length v ≤ n → (c : ℕ → Car) → ((p : ℕ) → p < length v → c p ≡ nil → ⊥)
        → (d j : ℕ) → ones v ≤ d → ((i : ℕ) → i < d → weighted c (j + i) v ≡ nil) → ones v ≡ 0
    unfolding weighted ones
    no_ones [] h few c some d j enough nils = refl
    no_ones (zero ∷ v) h few c some d j enough nils =
        let none : ones v ≡ 0 =
        no_ones v (all_bits-tail zero v h) (omega arith) c (λ p less. some p (omega arith)) d j (omega arith)
        (λ i less. sym (unit (weighted c (j + i) v)) ∙ nils i less) in
        omega arith
    no_ones (suc (suc b) ∷ v) h few c some d j enough nils = absurd (omega (arith, all_bits_head (suc (suc b)) v h))
    no_ones (suc zero ∷ v) h few c some zero j enough nils = absurd (omega arith)
    no_ones (suc zero ∷ v) h few c some (suc d) j enough nils =
        let p = length v in
        let bits = all_bits-tail 1 v h in
        let rest : (i : ℕ) → i < suc d → pow M (p * (j + i)) (c p) ≡ weighted c (j + i) v =
        λ i less. equal_of_nil M (pow M (p * (j + i)) (c p)) (weighted c (j + i) v) (nils i less) in
        let again : (i : ℕ) → i < d → weighted (both c p) (j + i) v ≡ nil =
        λ i less.
        let turned : p * suc (j + i) ≡ p + p * (j + i) = omega (arith, mul-suc p (j + i)) in
        let here : add (pow M (p * suc (j + i)) (c p)) (pow M p (pow M (p * (j + i)) (c p))) ≡ nil =
        ap₂ add (ap (λ (k : ℕ). pow M k (c p)) turned) (sym (pow-add M p (p * (j + i)) (c p))) ∙ self (pow M (p + p * (j + i)) (c p)) in
        weighted-both c p (j + i) v bits
        ∙ sym
        (ap₂ add
        (ap (λ (k : ℕ). pow M (p * k) (c p)) (sym (add-suc j i)) ∙ rest (suc i) (omega arith) ∙ ap (λ (k : ℕ). weighted c k v) (add-suc j i))
        (ap (pow M p) (rest i (omega arith))))
        ∙ here in
        let none : ones v ≡ 0 =
        no_ones v bits (omega arith) (both c p) (λ q less e. some q (omega arith) (both-nil c p q less (omega arith) e)) d j (omega arith) again in
        let alone : pow M (p * (j + 0)) (c p) ≡ nil = rest 0 (omega arith) ∙ weighted-none c (j + 0) v bits none in
        absurd (some p (omega arith) (shifts_nil M n round (omega arith) (p * (j + 0)) (c p) alone))

    -- the bound: v is nothing at x^j for j from 1 to d
    pub bch_bound : (v : List ℕ) → Bits v → length v ≤ n → (e : Car) → (e ≡ nil → ⊥) → (d : ℕ) → ones v ≤ d
        → ((i : ℕ) → i < d → times (Power M (suc i)) v e ≡ nil) → ones v ≡ 0
    bch_bound v h few e some d enough roots =
        no_ones v h few (λ (p : ℕ). e) (λ p less. some) d 1 enough
        (λ i less.
        let place : 1 + i ≡ suc i = omega arith in
        ap (λ (k : ℕ). weighted (λ (p : ℕ). e) k v) place ∙ weighted-same e (suc i) v h ∙ roots i less)
