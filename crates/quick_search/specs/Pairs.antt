-- Pairs of bits that stand n apart: the ends of a window agree where its r pairs do. For the contracts of private functions.
-- Assumes nothing.
use Rattle.std.specs.Prelude.{ℕ, ◌+◌, ◌-◌, ◌≤◌, ◌<◌, ◌≡◌, List, get_or}

-- the bits at j and j + n are the same
abbrev pub PairAgrees : ℕ → List ℕ → ℕ → Type 0
PairAgrees n s j = get_or s j 0 ≡ get_or s (j + n) 0

-- and so are those of every pair from a up to b, b left out
abbrev pub PairsAgree : ℕ → List ℕ → ℕ → ℕ → Type 0
PairsAgree n s a b = (j : ℕ) → a ≤ j → j < b → PairAgrees n s j

-- the lowest a, from the first pair up to the end, from which on all pairs agree
pub record AgreedFrom (n : ℕ) (s : List ℕ) (first end a : ℕ) : Type 0 where
  pub from : first ≤ a
  pub within : a ≤ end
  pub agree : PairsAgree n s a end
  pub differs : first < a → PairAgrees n s (a - 1) → ⊥
