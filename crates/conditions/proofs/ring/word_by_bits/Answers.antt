-- `conditions::ring::word_by_bits` meets its contract. The loop's invariant: the number of the 11 bits is that of the bits passed, x, and then
-- the rest round the ring. Assumes nothing.
use mathlib.Core.Path.{◌≡◌, sym, ap, ◌∙◌}
use mathlib.Core.List.{List}
use Prim.Native.Nat.{ℕ, ◌+◌, ◌*◌, ◌-◌, ◌%◌, ◌^◌, ◌≤◌, ◌<◌}
use native.Mathlib.Nat.{mod-lt, lt_of_lt_of_le}
use native.Mathlib.Omega.{arith}
use lib.ListN.{length, get_or}
use lib.Pow.{pow_mono}
use Rattle.bits.specs.Bits.{number_from, around}
use Rattle.bits.proofs.AllBits.{all_bits-get_or}
use Rattle.bits.proofs.Numbers.{more_below}
use Rattle.conditions.proofs.Round.{around_more, around_done}
use Rattle.conditions.proofs.ring.word_by_bits.Goals as goal

-- the next bit comes in
more : (i x at : ℕ) (b : List ℕ) → i < 11 → at < length b
    → number_from x (around (11 - i) at b) ≡ number_from (x * 2 + get_or b at 0) (around (11 - (i + 1)) ((at + 1) % length b) b)
unfolding number_from
more i x at b h inside = ap (number_from x) (around_more 11 i at b h inside)

done : (i x at : ℕ) (b : List ℕ) → 11 ≤ i → number_from x (around (11 - i) at b) ≡ x
unfolding number_from
done i x at b h = ap (number_from x) (around_done 11 i at b h)

-- i bits and one more, and what the type holds
doubled : (i x a : ℕ) → x < 2 ^ i → a < 2 → i < 11 → (x * 2 + a < 2 ^ (i + 1)) × (x * 2 + a < 2 ^ 16)
doubled i x a h k l =
    let one : x * 2 + a < 2 ^ (i + 1) = more_below i x a h k in
    let few : i + 1 ≤ 16 = omega arith in
    (one, lt_of_lt_of_le one (pow_mono few))

pub overflow_add-x : goal.overflow_add-x
overflow_add-x c =
    let bit = all_bits-get_or c.args.b.now c.loop-i.at c.requires.0 in
    omega (arith, doubled c.loop-i._i c.loop-i.x _ c.loop-i.invariant.0 bit (omega arith))

pub loop-i-preserved : goal.loop-i-preserved
loop-i-preserved c =
    let b = c.args.b.now in
    let i = c.loop-i._i in
    let x = c.loop-i.x in
    let bit = get_or b c.loop-i.at 0 in (
      (doubled i x bit c.loop-i.invariant.0 (all_bits-get_or b c.loop-i.at c.requires.0) (omega arith)).0,
      rw c.place_after-at.ensures (mod-lt (c.loop-i.at + 1) (omega arith)),
      c.loop-i.invariant.2 ∙ more i x c.loop-i.at b (omega arith) (omega arith)
          ∙ ap (λ (q : ℕ). number_from (x * 2 + bit) (around (11 - (i + 1)) q b)) (sym c.place_after-at.ensures),
    )

pub returns : goal.returns
returns c = sym (c.loop-i.invariant.2 ∙ done c.loop-i._i c.loop-i.x c.loop-i.at c.args.b.now (omega arith))
