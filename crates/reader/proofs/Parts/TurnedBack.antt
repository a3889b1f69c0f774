-- Bits turned back into a buffer by two copies: first the last t of them, then the others. Assumes nothing.
use mathlib.Core.Path.{◌≡◌, sym, ap, ap₂, ◌∙◌}
use mathlib.Core.List.{List, ◌++◌}
use Prim.Native.Nat.{ℕ, ◌+◌, ◌-◌, ◌≤◌}
use native.Mathlib.Omega.{arith}
use lib.ListN.{length, take, drop, length-drop}
use lib.Seq.{length-take-le}
use Rattle.cyclic.specs.Check.{turned}
use Rattle.telegrams.proofs.Buffers.Fronts.{lent, back, lent_is, front_more}

module _ (v : List ℕ) (k : ℕ) (within : k ≤ length v) where
  pub last_size : length (lent k v) ≡ length v - k
  last_size = ap length (lent_is k v) ∙ length-drop k v

  pub first_size : length (take k v) ≡ k
  first_size = length-take-le k v within

  -- s is old with the last bits of v in front, and left what the second copy leaves
  pub both_copied : (old s left : List ℕ) (at : ℕ) → at ≡ length (lent k v)
      → s ≡ lent k v ++ drop (length (lent k v)) old
      → left ≡ take k v ++ drop (length (take k v)) (lent at s)
      → back at s left ≡ turned k v ++ drop (length v) old
  unfolding turned
  both_copied old s left at at-is last first =
      let size : length (drop k v) ≡ at = sym (at-is ∙ ap length (lent_is k v)) in
      let front : s ≡ drop k v ++ drop at old =
      last ∙ ap₂ (λ (u : List ℕ) (i : ℕ). u ++ drop i old) (lent_is k v) (sym at-is) in
      let next : left ≡ take k v ++ drop k (lent at s) =
      first ∙ ap (λ (i : ℕ). take k v ++ drop i (lent at s)) first_size in
      let all : at + k ≡ length v = omega (arith, last_size) in
      front_more (drop k v) (take k v) old s left at k size front next
      ∙ ap (λ (i : ℕ). (drop k v ++ take k v) ++ drop i old) all
