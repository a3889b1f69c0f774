-- What a loop that goes through a slice from the front has left: the list from the index on. Assumes nothing.
use mathlib.Core.Path.{◌≡◌, ap, ◌∙◌, sym}
use mathlib.Core.List.{List, [], ◌∷◌}
use Prim.Native.Nat.{ℕ, suc, ◌+◌, ◌-◌, ◌≤◌, ◌<◌}
use native.Mathlib.Numerals.{add-one}
use native.Mathlib.Omega.{arith}
use lib.ListN.{length, get_or, drop, drop_of_length-le}
use lib.Seq.{drop-cons}

-- of k numbers, i of them passed, one is next, and the rest after it
pub count_more : {i k : ℕ} → i < k → k - i ≡ suc (k - (i + 1))
count_more h = omega arith

-- all of them are passed
pub count_done : {i k : ℕ} → k ≤ i → k - i ≡ 0
count_done h = omega arith

-- one element is next, and the rest after it
pub rest_more : (s : List ℕ) (i : ℕ) → i < length s → drop i s ≡ get_or s i 0 ∷ drop (i + 1) s
rest_more s i h = drop-cons s i 0 h ∙ ap (λ (n : ℕ). get_or s i 0 ∷ drop n s) (sym (add-one i))

-- everything is passed
pub rest_done : (s : List ℕ) (i : ℕ) → length s ≤ i → drop i s ≡ []
rest_done s i h = drop_of_length-le s h
