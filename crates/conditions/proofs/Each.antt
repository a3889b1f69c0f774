-- A test that holds of each of k numbers: of each by itself, and as `all` over a range tests one after the other. Assumes nothing.
use mathlib.Core.Path.{◌≡◌, refl, sym, ap, ◌∙◌, subst}
use mathlib.Core.Bool.{Bool, ◌&&◌}
use Prim.Native.Nat.{ℕ, zero, suc, ◌+◌, ◌-◌, ◌<◌}
use native.Mathlib.Nat.{add-zero, le_of_suc-le-suc}
use native.Mathlib.Numerals.{add-one}
use native.Mathlib.Omega.{arith}
use lib.Dec.{T}
use denote.Param.Members.{Mut}
use Rattle.std.proofs.iter.Yields.{nat_range_steps}
use Rattle.std.proofs.lemmas.Iterator.{YieldsList-from_range}
use Rattle.std.proofs.lemmas.Iterator.Search.{all_from_yields_List}
use Rattle.std.specs.declared.ops.Range.{Range}
use Rattle.std.specs.Fn.{Called}
use Rattle.std.specs.Iterator.{ChecksAll}
use Rattle.std.specs.List.{list_all, range_with_len}
use Rattle.bits.proofs.And.{and_left, and_right, and_of}
use Rattle.conditions.specs.Conditions.{each}

-- where it holds of each it holds of the j-th
pub each_at : (test : ℕ → Bool) (i k j : ℕ) → T (each test i k) → j < k → T (test (i + j))
unfolding each
each_at test i zero j t h = absurd (omega arith)
each_at test i (suc k) zero t h =
    subst (λ (x : ℕ). T (test x)) (sym (add-zero i)) (and_left (test i) (each test (suc i) k) t)
each_at test i (suc k) (suc j) t h =
    let place : suc i + j ≡ i + suc j = omega arith in
    subst (λ (x : ℕ). T (test x)) place (each_at test (suc i) k j (and_right (test i) (each test (suc i) k) t) (le_of_suc-le-suc h))

-- two tests that agree
pub each_same : (s t : ℕ → Bool) (i k : ℕ) → ((j : ℕ) → s j ≡ t j) → each s i k ≡ each t i k
unfolding each
each_same s t i zero e = refl
each_same s t i (suc k) e = rw (e i, each_same s t (suc i) k e)

-- a test that follows from another
pub each_follows : (s t : ℕ → Bool) (i k : ℕ) → ((j : ℕ) → j < i + k → T (s j) → T (t j)) → T (each s i k) → T (each t i k)
unfolding each
each_follows s t i zero follows h = tt
each_follows s t i (suc k) follows h =
    and_of (t i) (each t (suc i) k) (follows i (omega arith) (and_left (s i) (each s (suc i) k) h))
    (each_follows s t (suc i) k (λ j below. follows j (omega arith)) (and_right (s i) (each s (suc i) k) h))

-- the numbers of a range, one after the other
each_is_list_all : (test : ℕ → Bool) (i k : ℕ) → list_all test (range_with_len i k) ≡ each test i k
unfolding each
each_is_list_all test i zero = refl
each_is_list_all test i (suc k) = ap (λ (x : Bool). test i && x) (rw (add-one i) (each_is_list_all test (suc i) k))

-- `all` over a range, where the closure computes the test
pub each_from_all : {F : Type 0} {g : Mut F (ℕ × Unit {0}) Bool} (test : ℕ → Bool) (i k : ℕ) (u : Range ℕ) (f : F) (r : Bool)
    → ChecksAll nat_range_steps g (record { start = i; end = i + k }) f r u
    → ((x : ℕ) (b : Bool) (q : F) → Called g f (x, tt) b q → (q ≡ f) × (b ≡ test x)) → r ≡ each test i k
each_from_all test i k u f r ran computes =
    let count : i + k - i ≡ k = omega arith in
    all_from_yields_List test u f r ran (YieldsList-from_range i (i + k) k refl count) computes ∙ each_is_list_all test i k
