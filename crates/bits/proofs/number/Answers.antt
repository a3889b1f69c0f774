-- `bits::number` meets its contract. The loop's invariant: the number of the k bits is that of the bits passed, x, and then the rest. Assumes nothing.
use mathlib.Core.Path.{◌≡◌, sym, ap, ◌∙◌}
use mathlib.Core.List.{List}
use Prim.Native.Nat.{ℕ, ◌+◌, ◌*◌, ◌≤◌, ◌<◌, ◌-◌, ◌^◌}
use native.Mathlib.Omega.{arith}
use lib.Dec.{T}
use lib.ListN.{length, get_or, take, drop, length-take}
use lib.Pow.{pow_mono}
use Rattle.bits.specs.Bits.{all_bits, number_from, number_of}
use Rattle.bits.proofs.AllBits.{all_bits-get_or, all_bits-take, all_bits-drop}
use Rattle.bits.proofs.Numbers.{more_below}
use Rattle.bits.proofs.Rest.{rest_more, rest_done}
use Rattle.bits.proofs.number.Goals as goal

-- the next bit comes in
more : (s : List ℕ) (i x : ℕ) → i < length s → number_from x (drop i s) ≡ number_from (x * 2 + get_or s i 0) (drop (i + 1) s)
unfolding number_from
more s i x h = ap (number_from x) (rest_more s i h)

done : (s : List ℕ) (i x : ℕ) → length s ≤ i → number_from x (drop i s) ≡ x
unfolding number_from
done s i x h = ap (number_from x) (rest_done s i h)

-- the k bits from index at on
abbrev part : ℕ → ℕ → List ℕ → List ℕ
part at k s = take (at + k - at) (drop at s)

-- i of these and one more, as a number
below : (at k : ℕ) (s : List ℕ) (i x : ℕ) → T (all_bits s) → x < 2 ^ i → x * 2 + get_or (part at k s) i 0 < 2 ^ (i + 1)
below at k s i x h p = more_below i x _ p (all_bits-get_or (part at k s) i (all_bits-take (at + k - at) (drop at s) (all_bits-drop at s h)))

pub overflow_add-x : goal.overflow_add-x
overflow_add-x c =
    let a = c.args in
    let i = c.loop-b.b-index in
    omega (
      arith,
      below a.at a.k a.s.now i c.loop-b.x c.requires.1.1 c.loop-b.invariant.0,
      length-take (a.at + a.k - a.at) (drop a.at a.s.now),
      pow_mono {i = i + 1} {j = 31} (omega (arith, length-take (a.at + a.k - a.at) (drop a.at a.s.now))),
    )

pub loop-b-preserved : goal.loop-b-preserved
loop-b-preserved c =
    let a = c.args in
    let i = c.loop-b.b-index in (
      below a.at a.k a.s.now i c.loop-b.x c.requires.1.1 c.loop-b.invariant.0,
      c.loop-b.invariant.1 ∙ more (part a.at a.k a.s.now) i c.loop-b.x c.loop-b-test.true,
    )

pub returns : goal.returns
returns c =
    let a = c.args in
    let all : a.at + a.k - a.at ≡ a.k = omega arith in
    sym (c.loop-b.invariant.1 ∙ done (part a.at a.k a.s.now) c.loop-b.b-index c.loop-b.x c.loop-b-test.false)
    ∙ ap (λ (n : ℕ). number_of (take n (drop a.at a.s.now))) all
