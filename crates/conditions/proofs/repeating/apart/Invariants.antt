-- `conditions::repeating::apart` meets its contract. The loop's invariant: the places counted, and those where the rest of the two
-- stretches differ, which only adds to them. Assumes nothing.
use mathlib.Core.Path.{◌≡◌, ap}
use mathlib.Core.Bool.{Bool}
use mathlib.Core.List.{List}
use Prim.Native.Nat.{ℕ, suc, ◌+◌, ◌-◌, ◌≤◌, ◌<◌}
use borrow.Author.Tests.{eq-eqb, ne_eqb}
use lib.Dec.{eqb}
use lib.ListN.{length}
use Rattle.bits.specs.Bits.{around}
use Rattle.bits.specs.Differences.{count_differing, differences}
use Rattle.conditions.proofs.repeating.apart.Given as goal

-- where the rest of the two stretches differ, after i places
abbrev pub left : ℕ → ℕ → ℕ → List ℕ → ℕ
left i at other b = differences (around (22 - i) at b) (around (22 - i) other b)

-- two bits differ, or agree
pub differ : (x y k : ℕ) → (x ≡ y → ⊥) → count_differing (eqb x y) k ≡ suc k
differ x y k d = ap (λ (t : Bool). count_differing t k) (ne_eqb x y d)

pub agree : (x y k : ℕ) → x ≡ y → count_differing (eqb x y) k ≡ k
agree x y k e = ap (λ (t : Bool). count_differing t k) (eq-eqb x y e)

abbrev pub invariant-loop-i : goal.invariant-loop-i
invariant-loop-i l =
    (l.count ≤ l._i) × (l.at < length l.b) × (l.other < length l.b)
    × (differences (around 22 l.p l.b) (around 22 (l.p + l.k) l.b) ≡ l.count + left l._i l.at l.other l.b)
