-- `formats::register::Register::of` meets its contract. The loop's invariant: the powers of the whole slice are those of the rest added to the sum so far. Assumes nothing.
use mathlib.Core.Path.{◌≡◌, sym, ap, ◌∙◌}
use mathlib.Core.List.{List, ◌∷◌}
use Prim.Native.Nat.{ℕ, ◌+◌, ◌≤◌, ◌<◌, ◌^◌}
use lib.Bits.{bit_xor}
use lib.Dec.{T, ltb, ltb→lt}
use lib.ListN.{length, get_or, drop}
use Rattle.bits.proofs.And.{and_left, and_right}
use Rattle.bits.proofs.Rest.{rest_more, rest_done}
use Rattle.formats.specs.Value.{value_of, powers, all_below}
use Rattle.formats.proofs.register.Register.of.Goals as goal

-- the next exponent is below 128, and so are the rest
next : (es : List ℕ) (i : ℕ) → i < length es → T (all_below 128 (drop i es)) → (get_or es i 0 < 128) × T (all_below 128 (drop (i + 1) es))
unfolding all_below
next es i h t =
    let u : T (all_below 128 (get_or es i 0 ∷ drop (i + 1) es)) = rw (rest_more es i h) at t in
    let test = ltb (get_or es i 0) 128 in
    let others = all_below 128 (drop (i + 1) es) in
    (ltb→lt (get_or es i 0) 128 (and_left test others u), and_right test others u)

-- the next power goes into the sum
more : (es : List ℕ) (i a : ℕ) → i < length es → powers a (drop i es) ≡ powers (bit_xor a (2 ^ get_or es i 0)) (drop (i + 1) es)
unfolding powers
more es i a h = ap (powers a) (rest_more es i h)

done : (es : List ℕ) (i a : ℕ) → length es ≤ i → powers a (drop i es) ≡ a
unfolding powers
done es i a h = ap (powers a) (rest_done es i h)

pub plus_power-sum-requires : goal.plus_power-sum-requires
plus_power-sum-requires c = (next c.args.exponents.now c.loop-e.e-index c.loop-e-test.true c.loop-e.invariant.0).0

pub loop-e-preserved : goal.loop-e-preserved
loop-e-preserved c =
    let es = c.args.exponents.now in
    let i = c.loop-e.e-index in (
      (next es i c.loop-e-test.true c.loop-e.invariant.0).1,
      c.loop-e.invariant.1 ∙ more es i (value_of c.loop-e.sum) c.loop-e-test.true
          ∙ ap (λ (x : ℕ). powers x (drop (i + 1) es)) (sym c.plus_power-sum.ensures),
    )

pub returns : goal.returns
returns c = sym (c.loop-e.invariant.1 ∙ done c.args.exponents.now c.loop-e.e-index (value_of c.loop-e.sum) c.loop-e-test.false)
