-- `conditions::repeating::apart` meets its contract. The loop's invariant: the places counted, and those where the rest of the two
-- stretches differ, which only adds to them. Assumes nothing.
use mathlib.Core.Path.{◌≡◌, sym, ap, ap₂, ◌∙◌}
use mathlib.Core.List.{List}
use Prim.Native.Nat.{ℕ, ◌+◌, ◌%◌, ◌≤◌, ◌<◌}
use native.Mathlib.Nat.{mod-lt}
use native.Mathlib.Omega.{arith}
use borrow.Author.Tests.{le-leb}
use lib.Dec.{eqb, leb}
use lib.ListN.{length, get_or}
use Rattle.bits.specs.Bits.{around}
use Rattle.bits.specs.Differences.{count_differing, differences}
use Rattle.conditions.specs.Conditions.{apart}
use Rattle.conditions.proofs.Round.{around-mod, around_more, around_done}
use Rattle.conditions.proofs.repeating.apart.Invariants.{left, differ, agree}
use Rattle.conditions.proofs.repeating.apart.Goals as goal
use Rattle.conditions.proofs.repeating.apart.Goals.{then-b-at, else-b-at}

more : (i at other : ℕ) (b : List ℕ) → i < 22 → at < length b → other < length b
    → left i at other b ≡ count_differing (eqb (get_or b at 0) (get_or b other 0)) (left (i + 1) ((at + 1) % length b) ((other + 1) % length b) b)
unfolding differences
more i at other b h u v = ap₂ differences (around_more 22 i at b h u) (around_more 22 i other b h v)

done : (i at other : ℕ) (b : List ℕ) → 22 ≤ i → left i at other b ≡ 0
unfolding differences
done i at other b h = ap₂ differences (around_done 22 i at b h) (around_done 22 i other b h)

pub loop-i-init : goal.loop-i-init
loop-i-init c =
    let a = c.args in
    let b = a.b.now in
    let same : left 0 a.p c.place_after-other.result b ≡ differences (around 22 a.p b) (around 22 (a.p + a.k) b) =
    ap (differences (around 22 a.p b)) (ap (λ (q : ℕ). around 22 q b) c.place_after-other.ensures ∙ around-mod 22 (a.p + a.k) b) in
    (omega arith, c.requires.0, rw c.place_after-other.ensures (mod-lt (a.p + a.k) (omega arith)), omega arith)

pub returns-then-d-count : goal.returns-then-d-count
unfolding apart
returns-then-d-count c =
    let a = c.args in
    sym (le-leb a.d (differences (around 22 a.p a.b.now) (around 22 (a.p + a.k) a.b.now)) (omega (arith, c.loop-i.invariant, c.if-d-count.true)))

pub loop-i-preserved : goal.loop-i-preserved
loop-i-preserved c =
    let b = c.args.b.now in
    let i = c.loop-i._i in
    let at = c.loop-i.at in
    let other = c.loop-i.other in
    let rest = left (i + 1) ((at + 1) % length b) ((other + 1) % length b) b in
    let next = more i at other b (omega arith) (omega arith) (omega arith) in
    let places : left (i + 1) c.place_after-at.result c.place_after-other-in-loop-i.result b ≡ rest =
    ap₂ (λ (u v : ℕ). left (i + 1) u v b) c.place_after-at.ensures c.place_after-other-in-loop-i.ensures in
    let counted : (c.if-b-at.count ≤ i + 1) × (c.loop-i.count + left i at other b ≡ c.if-b-at.count + rest) =
    elim c.if-b-at.branch [
      | then-b-at w ↦ (omega arith, omega (arith, differ (get_or b at 0) (get_or b other 0) rest w.if-b-at.true))
      | else-b-at w ↦ (omega arith, omega (arith, agree (get_or b at 0) (get_or b other 0) rest w.if-b-at.false))
    ] in (
      counted.0,
      rw c.place_after-at.ensures (mod-lt (at + 1) (omega arith)),
      rw c.place_after-other-in-loop-i.ensures (mod-lt (other + 1) (omega arith)),
      omega arith,
    )

pub returns : goal.returns
unfolding apart
returns c =
    let a = c.args in
    let total : c.loop-i.count ≡ differences (around 22 a.p a.b.now) (around 22 (a.p + a.k) a.b.now) =
    omega (arith, done c.loop-i._i c.loop-i.at c.loop-i.other a.b.now (omega arith)) in
    ap (leb a.d) total
