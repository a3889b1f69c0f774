-- Neighbouring elements of a list: those of a part of it, of bits of a ring, and of bits whose end repeats the beginning. Assumes nothing.
use Prim.Native.Nat.{ℕ, ◌+◌, ◌-◌, ◌≤◌}
use mathlib.Core.Path.{◌≡◌, sym, ap, ◌∙◌}
use mathlib.Core.List.{List, ◌++◌}
use native.Mathlib.Omega.{arith}
use lib.ListN.{length, take, drop, length-drop, take-append-drop}
use lib.Seq.{take-append-le, drop-append-le, drop-drop, length-take-le}
use Rattle.bits.specs.Bits.{around}
use Rattle.bits.proofs.Ring.{take-around, drop-around}

-- i elements from the place j on
abbrev pub stretch : ℕ → ℕ → List ℕ → List ℕ
stretch i j l = take i (drop j l)

-- of two lists, in the first
pub stretch-append : (i j : ℕ) (u v : List ℕ) → j + i ≤ length u → stretch i j (u ++ v) ≡ stretch i j u
stretch-append i j u v within =
    ap (take i) (drop-append-le j u v (omega arith)) ∙ take-append-le i (drop j u) v (omega (arith, length-drop j u))

-- of the first k elements
pub stretch-take : (i j k : ℕ) (l : List ℕ) → j + i ≤ k → k ≤ length l → stretch i j (take k l) ≡ stretch i j l
stretch-take i j k l within all =
    sym (stretch-append i j (take k l) (drop k l) (omega (arith, length-take-le k l all))) ∙ ap (stretch i j) (take-append-drop k l)

-- of k bits of a ring
pub stretch-around : (i j k p : ℕ) (b : List ℕ) → j + i ≤ k → stretch i j (around k p b) ≡ around i (p + j) b
stretch-around i j k p b within =
    let rest : ℕ = k - (j + i) in
    let all : k ≡ j + (i + rest) = omega arith in
    ap (λ (m : ℕ). stretch i j (around m p b)) all ∙ ap (take i) (drop-around j (i + rest) p b) ∙ take-around i rest (p + j) b

-- of bits whose last r repeat the first r
pub stretch_repeated : (n r i j : ℕ) (v : List ℕ) → drop n v ≡ take r v → j + i ≤ r → r ≤ length v → stretch i (n + j) v ≡ stretch i j v
stretch_repeated n r i j v e within all = ap (take i) (sym (drop-drop j n v)) ∙ ap (stretch i j) e ∙ stretch-take i j r v within all
