-- `telegrams::making::shape` meets its contract. The loop's invariant: the words of the first j blocks stand in front, and the rest is as it
-- was. Assumes nothing.
use mathlib.Core.Path.{◌≡◌, refl, ap, ◌∙◌}
use mathlib.Core.List.{List, ◌++◌}
use Prim.Native.Nat.{ℕ, ◌*◌, ◌<◌}
use native.Mathlib.Omega.{arith}
use lib.Dec.{T}
use lib.ListN.{take, drop}
use Rattle.bits.specs.Bits.{all_bits, number_of, bits_of}
use Rattle.bits.specs.Groups.{over_groups}
use Rattle.bits.proofs.AllBits.{all_bits-drop}
use Rattle.bits.proofs.Parts.{front_below}
use Rattle.words.specs.Words.{word_of}
use Rattle.telegrams.specs.Telegram.{shaped}
use Rattle.telegrams.proofs.Shaping.{word_of_block, length-word}
use Rattle.telegrams.proofs.Buffers.Fronts.{group_more}
use Rattle.telegrams.proofs.making.shape.Goals as goal

-- ten bits are a number below 1024
ten_bits : (v : List ℕ) (at n : ℕ) → T (all_bits v) → n ≡ number_of (take 10 (drop at v)) → n < 1024
ten_bits v at n t e = omega (arith, e, front_below 10 (drop at v) (all_bits-drop at v t))

pub loop-j-init : goal.loop-j-init
unfolding over_groups
loop-j-init c = refl

pub overflow_cast-number : goal.overflow_cast-number
overflow_cast-number c = omega (arith, ten_bits _ _ _ c.requires.are_bits c.number-number.ensures)

pub word_in-word-requires : goal.word_in-word-requires
word_in-word-requires c = (c.entries-entries.ensures, ten_bits _ _ _ c.requires.are_bits c.number-number.ensures)

pub loop-j-preserved : goal.loop-j-preserved
loop-j-preserved c =
    let v = c.args.scrambled.now in
    let old = c.args.out.now in
    let j = c.loop-j.j in
    let w = c.word_in-word.result in
    let entry : w ≡ word_of (number_of (take 10 (drop (10 * j) v))) = c.word_in-word.ensures ∙ ap word_of c.number-number.ensures in
    group_more word_of_block 10 11 length-word j v old c.loop-j.out c.write_number.new.out (bits_of 11 w) c.loop-j.invariant
    (ap (bits_of 11) entry) c.write_number.ensures

pub returns : goal.returns
returns c =
    let a = c.args in
    let all : c.loop-j.j ≡ a.k = omega arith in
    c.loop-j.invariant ∙ ap (λ (j : ℕ). shaped j a.scrambled.now ++ drop (11 * j) a.out.now) all
