-- `conditions::thinned::thin` meets its contract. The loop's invariant: the first thinned bits are written, and `at` is the place of the last one.
-- Assumes nothing.
use mathlib.Core.Path.{◌≡◌, refl, sym, ap, ◌∙◌}
use mathlib.Core.List.{List, ◌∷◌, ◌++◌}
use Prim.Native.Nat.{ℕ, suc, ◌+◌, ◌-◌, ◌*◌, ◌%◌, ◌≤◌, ◌<◌}
use native.Mathlib.Omega.{arith}
use lib.ListN.{length, get_or, take, drop}
use Rattle.std.proofs.lemmas.List.{append-nil, drop_all, length-take-le}
use Rattle.bits.proofs.Writer.{Written, written_more, written_done}
use Rattle.conditions.specs.Conditions.{thinned_below}
use Rattle.conditions.proofs.ThinnedRing.{place_on}
use Rattle.conditions.proofs.thinned.thin.Goals as goal

-- v(j - 1) is next
more : (j step : ℕ) (b : List ℕ) → 0 < j
    → thinned_below j step b ≡ get_or b (length b - 1 - (j - 1) * step % length b) 0 ∷ thinned_below (j - 1) step b
unfolding thinned_below
more j step b h =
    let count : j ≡ suc (j - 1) = omega arith in
    ap (λ (x : ℕ). thinned_below x step b) count

-- all are written
done : (n step i : ℕ) (b old new : List ℕ) → Written (thinned_below n step b) old new (thinned_below (n - i) step b) i → length old ≤ i → n ≤ i
    → new ≡ thinned_below n step b
unfolding thinned_below
done n step i b old new w full all =
    let none : n - i ≡ 0 = omega arith in
    written_done w (ap (λ (x : ℕ). thinned_below x step b) none) ∙ ap (λ (l : List ℕ). thinned_below n step b ++ l) (drop_all i old full)
    ∙ append-nil (thinned_below n step b)

pub loop-slot-preserved : goal.loop-slot-preserved
loop-slot-preserved c =
    let b = c.args.b.now in
    let n = length b in
    let step = c.args.step in
    let i = c.loop-slot.slot-index in
    let j = n - i in
    let size : length (take n c.args.out.now) ≡ n = length-take-le n c.args.out.now c.requires.0 in
    let next : n - (i + 1) ≡ j - 1 = omega arith in
    let count : j ≡ j - 1 + 1 = omega arith in
    let gone_on : c.place_after-at.result ≡ n - 1 - (j - 1) * step % n =
    c.place_after-at.ensures ∙ ap (λ (x : ℕ). (x + step) % n) (c.loop-slot.invariant.1 ∙ ap (λ (x : ℕ). n - 1 - x * step % n) count)
    ∙ place_on n (j - 1) step (omega arith) (omega arith) in
    rw next (
      refl,
      gone_on,
      written_more c.loop-slot.invariant.2 c.loop-slot-test.true
          (more j step b (omega arith) ∙ ap (λ (x : ℕ). get_or b x 0 ∷ thinned_below (j - 1) step b) (sym gone_on)),
    )

pub returns : goal.returns
returns c =
    let n = length c.args.b.now in
    let size : length (take n c.args.out.now) ≡ n = length-take-le n c.args.out.now c.requires.0 in
    ap (λ (l : List ℕ). l ++ drop n c.args.out.now) (done n _ _ _ _ _ c.loop-slot.invariant.2 c.loop-slot-test.false (omega arith))
