-- `telegrams::undoing::unshape` meets its contract. The loop's invariant: the blocks of the first j words stand in front, the rest is as it
-- was, and the first bad word is that of the words not yet passed. Assumes nothing.
use mathlib.Core.Path.{◌≡◌, refl, sym, ap, ◌∙◌}
use mathlib.Core.List.{◌++◌}
use Prim.Native.Nat.{ℕ, ◌*◌}
use native.Mathlib.Omega.{arith}
use lib.ListN.{take, drop}
use Rattle.std.specs.Prelude.{Ok, Err}
use Rattle.bits.specs.Bits.{number_of, bits_of}
use Rattle.bits.specs.Groups.{over_groups}
use Rattle.bits.proofs.Left.{left_all, left_fewer, left-found, left-none}
use Rattle.bits.proofs.Tests.{fails}
use Rattle.words.specs.Words.{lookup_of, number_in}
use Rattle.telegrams.specs.Fields.{all_words, unshaped}
use Rattle.telegrams.proofs.Shaping.{block_of_word, length_block}
use Rattle.telegrams.proofs.FirstBad.{word_below, is_bad_by, none_whole, found_some, found_not_word}
use Rattle.telegrams.proofs.Buffers.Fronts.{group_more}
use Rattle.telegrams.proofs.undoing.unshape.Goals as goal

pub loop-j-init : goal.loop-j-init
unfolding over_groups
loop-j-init c = (left_all _ _, refl)

pub overflow_cast-word : goal.overflow_cast-word
overflow_cast-word c =
    omega (arith, c.number-word.ensures, word_below c.args.telegram.now c.loop-j.j c.requires.are_bits)

pub returns-in_default : goal.returns-in_default
returns-in_default c =
    let a = c.args in
    let j = c.loop-j.j in
    let is = ap lookup_of (sym c.number-word.ensures) ∙ sym c.look_up.ensures ∙ c.in_default.is in
    let bad = left-found c.loop-j.invariant.0 (omega arith) (is_bad_by a.telegram.now j _ is) in record {
      value = ap Err c.bad_word.ensures ∙ sym (found_not_word _ _ _ bad);
      out_after = λ h. absurd (fails (all_words a.k a.telegram.now) (found_some _ _ _ bad) h);
    }

pub loop-j-preserved : goal.loop-j-preserved
loop-j-preserved c =
    let a = c.args in
    let b = a.telegram.now in
    let j = c.loop-j.j in
    let i = c.in-Ok.i in
    let is : lookup_of (number_of (take 11 (drop (11 * j) b))) ≡ Ok i = ap lookup_of (sym c.number-word.ensures) ∙ sym c.look_up.ensures ∙ c.in-Ok.is in
    let block : bits_of 10 i ≡ block_of_word (take 11 (drop (11 * j) b)) = sym (ap (λ (r : _). bits_of 10 (number_in r)) is) in (
      left_fewer c.loop-j.invariant.0 (omega arith) (is_bad_by b j _ is),
      group_more block_of_word 11 10 length_block j b a.out.now c.loop-j.out c.write_number.new.out (bits_of 10 i) c.loop-j.invariant.1
          block c.write_number.ensures,
    )

pub returns : goal.returns
returns c =
    let a = c.args in
    let all : c.loop-j.j ≡ a.k = omega arith in record {
      value = sym (none_whole _ _ (left-none c.loop-j.invariant.0 (omega arith)));
      out_after = λ h. c.loop-j.invariant.1 ∙ ap (λ (j : ℕ). unshaped j a.telegram.now ++ drop (10 * j) a.out.now) all;
    }
