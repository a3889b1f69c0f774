-- The outcome of a call that writes a buffer (document 01, "When the bench says no").
-- Assumes nothing.
use Rattle.std.specs.Prelude.{ℕ, ◌≤◌, ◌≡◌, List, length, drop}

-- the answer, and every byte of the output afterwards
pub record Outcome (A : Type 0) : Type 0 where
  pub answer : A
  pub output : List ℕ

abbrev pub outcome : {A : Type 0} → A → List ℕ → Outcome A
outcome answer output = record { answer = answer; output = output }

-- of an output only the first k bytes, which it has, are written over
pub record FrontWritten (k : ℕ) (before after : List ℕ) : Type 0 where
  pub room : k ≤ length before
  pub size : length after ≡ length before
  pub tail : drop k after ≡ drop k before
