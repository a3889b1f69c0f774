-- A loop that searches from 0 up for the first number that passes a test: those before p have failed. Assumes nothing.
use mathlib.Core.Path.{◌≡◌, ap, ◌∙◌}
use mathlib.Core.Bool.{Bool, true, false}
use Prim.Native.Nat.{ℕ, zero, suc, ◌+◌, ◌-◌, ◌≤◌, ◌<◌}
use native.Mathlib.Nat.{add-zero}
use native.Mathlib.Omega.{arith}
use Rattle.bits.specs.Search.{First, found, none, first_of}
use Rattle.bits.proofs.First.{first-none, first_here, first_later}
use Rattle.bits.proofs.Rest.{count_more, count_done}

-- of k numbers those before p have failed: the answer is that of the numbers from p on
pub record Left (test : ℕ → Bool) (answer : First) (k p : ℕ) : Type 0 where
  pub within : p ≤ k
  pub rest : answer ≡ first_of test p (k - p)

pub left_all : (test : ℕ → Bool) (k : ℕ) → Left test (first_of test 0 k) k 0
left_all test k =
    let all : k ≡ k - 0 = omega arith in
    record { within = omega arith; rest = ap (first_of test 0) all }

module _ {test : ℕ → Bool} {answer : First} {k p : ℕ} (l : Left test answer k p) where
  -- p is the next of them
  next : p < k → answer ≡ first_of test p (suc (k - (p + 1)))
  next h = l.rest ∙ ap (first_of test p) (count_more h)

  pub left_fewer : p < k → test p ≡ false → Left test answer k (p + 1)
  left_fewer h e =
      let after : suc p ≡ p + 1 = omega arith in
      record {
        within = omega arith;
        rest = next h ∙ first_later test p (k - (p + 1)) e ∙ ap (λ (i : ℕ). first_of test i (k - (p + 1))) after;
      }

  pub left-found : p < k → test p ≡ true → answer ≡ found p
  left-found h e = next h ∙ first_here test p (k - (p + 1)) e

  pub left-none : k ≤ p → answer ≡ none
  left-none h = l.rest ∙ ap (first_of test p) (count_done h) ∙ first-none test p

-- none of the next d passes
fewer_by : {test : ℕ → Bool} {answer : First} {k p : ℕ} → Left test answer k p → (d : ℕ) → p + d ≤ k
    → ((j : ℕ) → p ≤ j → j < p + d → test j ≡ false) → Left test answer k (p + d)
fewer_by l zero within fail = rw add-zero l
fewer_by {p} l (suc d) within fail =
    let next : p + d + 1 ≡ p + suc d = omega arith in
    rw next at
    (left_fewer (fewer_by l d (omega arith) (λ j from below. fail j from (omega arith))) (omega arith) (fail (p + d) (omega arith) (omega arith)))

-- none of those from p up to q passes
pub left_past : {test : ℕ → Bool} {answer : First} {k p : ℕ} → Left test answer k p → (q : ℕ) → p ≤ q → q ≤ k
    → ((j : ℕ) → p ≤ j → j < q → test j ≡ false) → Left test answer k q
left_past {p} l q from within fail =
    let all : p + (q - p) ≡ q = omega arith in
    rw all at (fewer_by l (q - p) (omega arith) (λ j h below. fail j h (omega arith)))
