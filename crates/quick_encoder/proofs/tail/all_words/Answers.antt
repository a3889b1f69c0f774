-- `quick_encoder::tail::all_words` meets its contract: the ten words are those of the two numbers. Assumes nothing.
use mathlib.Core.Path.{◌≡◌, refl, sym, ap, ap₂, ◌∙◌}
use mathlib.Core.Bool.{Bool, true, false, ◌&&◌, and_assoc}
use mathlib.Core.List.{◌++◌}
use native.Mathlib.Omega.{arith}
use lib.Seq.{drop_at}
use Rattle.bits.specs.Bits.{bits_of}
use Rattle.bits.proofs.Groups.{groups_add, groups_front}
use Rattle.bits.proofs.Numbers.{length-bits_of}
use Rattle.words.specs.Words.{is_word}
use Rattle.telegrams.specs.Fields.{all_words}
use Rattle.quick_encoder.specs.declared.tail.Tail.{Tail}
use Rattle.quick_encoder.specs.Tail.{tail_bits}
use Rattle.quick_encoder.proofs.tail.all_words.Goals as goal

-- those of the high number, and those of the low one
ten_words : (t : Tail) (high low : Bool) → high ≡ all_words 5 (bits_of 55 t.high) → low ≡ all_words 5 (bits_of 55 t.low)
    → all_words 10 (tail_bits t) ≡ high && low
ten_words t high low e e' =
    let h = bits_of 55 t.high in
    let l = bits_of 55 t.low in
    let size = length-bits_of 55 t.high in
    groups_add ◌&&◌ true is_word 11 (λ b. refl) and_assoc 5 5 (h ++ l)
    ∙ ap₂ ◌&&◌ (groups_front ◌&&◌ true is_word 11 5 h l (omega arith)) (ap (all_words 5) (drop_at h l 55 size))
    ∙ sym (ap₂ ◌&&◌ e e')

pub returns-then-five_words : goal.returns-then-five_words
returns-then-five_words c = sym (ten_words c.args.tail true _ c.if-five_words.ensures c.five_words-then-five_words.ensures)

pub returns-else-five_words : goal.returns-else-five_words
returns-else-five_words c = c.if-five_words.false ∙ sym (ten_words c.args.tail false _ c.if-five_words.ensures refl)
