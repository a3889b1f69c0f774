-- `conditions::thinned::thinned_by` meets its contract: the front of the array is the thinned ring. Assumes nothing.
use mathlib.Core.Path.{◌≡◌, sym, ap, ◌∙◌}
use mathlib.Core.List.{List, ◌++◌}
use Prim.Native.Nat.{ℕ, ◌*◌, ◌%◌, ◌^◌, ◌≤◌}
use native.Mathlib.Omega.{arith}
use lib.ListN.{length, take}
use lib.Pow.{pow_mono}
use lib.Seq.{take_at}
use Rattle.formats.proofs.Sizes.{telegram_between}
use Rattle.conditions.specs.Conditions.{from_to, thinned_below, thinned, thinned_at, thinned_by}
use Rattle.conditions.proofs.ThinnedRing.{length-thinned_below, length-thinned, all_bits-thinned}
use Rattle.conditions.proofs.thinned.thinned_by.Goals as goal

-- the shift gives 2^k, at most 16
power : (k : ℕ) → k ≤ 4 → (1 * 2 ^ k % 2 ^ 64 ≡ 2 ^ k) × (2 ^ k ≤ 16)
power k h =
    let small : 2 ^ k ≤ 2 ^ 4 = pow_mono h in
    (omega arith, omega arith)

-- what stands before the array's tail
front : (b rest out : List ℕ) (k step : ℕ) → step ≡ 2 ^ k → out ≡ thinned_below (length b) step b ++ rest → take (length b) out ≡ thinned k b
unfolding thinned
front b rest out k step e f =
    ap (take (length b)) f ∙ take_at (thinned_below (length b) step b) rest (length b) (length-thinned_below (length b) step b)
    ∙ ap (λ (s : ℕ). thinned_below (length b) s b) e

pub thin-requires : goal.thin-requires
thin-requires c =
    let n = telegram_between c.args.telegram.format in
    let p = power c.args.k c.requires in
    (omega arith, (omega arith, omega arith))

pub slice_bounds-v-end : goal.slice_bounds-v-end
slice_bounds-v-end c = omega (arith, telegram_between c.args.telegram.format)

pub slice_bounds-within_round-end : goal.slice_bounds-within_round-end
slice_bounds-within_round-end c =
    let written : take (length c.args.telegram.bits.now) c.thin.new.out ≡ thinned c.args.k c.args.telegram.bits.now = front c.args.telegram.bits.now _ _ c.args.k _ (power c.args.k c.requires).0 c.thin.ensures in
    sym (ap length (written) ∙ length-thinned _ _)

pub invariant_of-within_round : goal.invariant_of-within_round
invariant_of-within_round c =
    let written : take (length c.args.telegram.bits.now) c.thin.new.out ≡ thinned c.args.k c.args.telegram.bits.now = front c.args.telegram.bits.now _ _ c.args.k _ (power c.args.k c.requires).0 c.thin.ensures in
    let e = written in
    record { are_bits = rw e (all_bits-thinned c.args.k c.args.telegram.bits.now c.args.telegram.are_bits); size = ap length e ∙ length-thinned c.args.k c.args.telegram.bits.now ∙ c.args.telegram.size }

pub returns : goal.returns
unfolding thinned_by
returns c =
    let written : take (length c.args.telegram.bits.now) c.thin.new.out ≡ thinned c.args.k c.args.telegram.bits.now = front c.args.telegram.bits.now _ _ c.args.k _ (power c.args.k c.requires).0 c.thin.ensures in
    c.within_round.ensures ∙ ap (λ (v : List ℕ). from_to 0 10 (thinned_at c.args.telegram.format v)) (written)
