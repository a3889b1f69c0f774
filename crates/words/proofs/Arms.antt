-- The last arm of a match on 0, 1, 2, and so on. Assumes nothing.
use mathlib.Core.Path.{◌≡◌}
use Prim.Native.Nat.{ℕ, zero, suc, ◌≤◌}
use native.Mathlib.Omega.{arith}

-- x is none of the k numbers below k, as the last arm is told it
abbrev pub NoneBelow : ℕ → ℕ → Type 0
NoneBelow zero x = Unit
NoneBelow (suc k) x = NoneBelow k x × (x ≡ k → ⊥)

pub none_below : (k x : ℕ) → NoneBelow k x → k ≤ x
none_below zero x h = omega arith
none_below (suc k) x h =
    let above = none_below k x h.0 in
    let other = h.1 in
    omega arith
