-- `telegrams::fields::go_through` meets its contract. The loop's invariant: the first bad word is that of the words not yet passed.
-- Assumes nothing.
use mathlib.Core.Path.{◌≡◌, sym, ap, ◌∙◌}
use mathlib.Core.Bool.{Bool, not}
use mathlib.Core.List.{List}
use Prim.Native.Nat.{ℕ}
use native.Mathlib.Omega.{arith}
use Rattle.std.specs.Prelude.{Err}
use Rattle.bits.specs.Bits.{number_of}
use Rattle.bits.proofs.Left.{left_fewer, left-found, left-none}
use Rattle.words.specs.Words.{in_table, is_word}
use Rattle.telegrams.specs.Worded.{word_at, is_bad}
use Rattle.telegrams.proofs.FirstBad.{word_below, none_whole, found_not_word}
use Rattle.telegrams.proofs.fields.go_through.Goals as goal

-- whether the next word is bad, by what was found of it
next : (s : List ℕ) (at word : ℕ) (t : Bool) → word ≡ number_of (word_at s at) → t ≡ in_table word → (u : Bool) → t ≡ u → is_bad s at ≡ not u
unfolding is_bad is_word
next s at word t n f u e = ap not (sym (f ∙ ap in_table n) ∙ e)

pub overflow_cast-word : goal.overflow_cast-word
overflow_cast-word c = omega (arith, c.number-word.ensures, word_below c.args.s.now c.loop-at.at c.requires.are_bits)

pub returns-then-not-in_table : goal.returns-then-not-in_table
returns-then-not-in_table c =
    let bad = next c.args.s.now c.loop-at.at _ _ c.number-word.ensures c.in_table.ensures _ c.if-not-in_table.true in
    ap Err c.bad_word.ensures ∙ sym (found_not_word _ _ _ (left-found c.loop-at.invariant (omega arith) bad))

pub loop-at-preserved : goal.loop-at-preserved
loop-at-preserved c =
    left_fewer c.loop-at.invariant (omega arith) (next c.args.s.now c.loop-at.at _ _ c.number-word.ensures c.in_table.ensures _ c.if-not-in_table.false)

pub returns : goal.returns
returns c = sym (none_whole _ _ (left-none c.loop-at.invariant (omega arith)))
