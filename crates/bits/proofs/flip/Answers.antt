-- `bits::flip` meets its contract. The loop's invariant: the flip of the bits passed is written. Assumes nothing.
use mathlib.Core.Path.{◌≡◌, sym, ap, ◌∙◌}
use mathlib.Core.List.{List, [], ◌∷◌, ◌++◌, append-nil}
use Prim.Native.Nat.{ℕ, ◌+◌, ◌≤◌, ◌<◌, ◌-◌}
use native.Mathlib.Omega.{arith}
use lib.ListN.{length, get_or, drop}
use Rattle.bits.specs.Bits.{flip}
use Rattle.bits.proofs.AllBits.{all_bits-get_or}
use Rattle.bits.proofs.Rest.{rest_more, rest_done}
use Rattle.bits.proofs.Writer.{written_more, written_done, written_next}
use Rattle.bits.proofs.flip.Goals as goal

-- the flip of the rest, one bit at a time
more : (s : List ℕ) (i : ℕ) → i < length s → flip (drop i s) ≡ (1 - get_or s i 0) ∷ flip (drop (i + 1) s)
unfolding flip
more s i h = ap flip (rest_more s i h)

done : (s : List ℕ) (i : ℕ) → length s ≤ i → flip (drop i s) ≡ []
unfolding flip
done s i h = ap flip (rest_done s i h)

pub overflow_sub-bit : goal.overflow_sub-bit
overflow_sub-bit c =
    omega (arith, written_next c.loop-bit.invariant, all_bits-get_or c.args.s.now c.loop-bit.bit-index c.requires)

pub loop-bit-preserved : goal.loop-bit-preserved
loop-bit-preserved c =
    let s = c.args.s.now in
    let i = c.loop-bit.bit-index in
    written_more c.loop-bit.invariant c.loop-bit-test.true
    (more s i c.loop-bit-test.true ∙ ap (λ (x : ℕ). (1 - x) ∷ flip (drop (i + 1) s)) (sym (written_next c.loop-bit.invariant)))

pub returns : goal.returns
returns c =
    let s = c.args.s.now in
    let i = c.loop-bit.bit-index in
    written_done c.loop-bit.invariant (done s i c.loop-bit-test.false)
    ∙ ap (λ (t : List ℕ). flip s ++ t) (rest_done s i c.loop-bit-test.false) ∙ append-nil (flip s)
