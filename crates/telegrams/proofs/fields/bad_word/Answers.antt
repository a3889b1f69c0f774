-- `telegrams::fields::bad_word` meets its contract. Assumes nothing.
use mathlib.Core.Path.{ap, ◌∙◌}
use native.Mathlib.Omega.{arith}
use Rattle.words.specs.declared.Kind.{Kind}
use Rattle.words.specs.declared.BadWord.{BadWord}
use Rattle.words.specs.Words.{kind_of}
use Rattle.telegrams.specs.Worded.{bad_word_at}
use Rattle.telegrams.proofs.FirstBad.{word_below}
use Rattle.telegrams.proofs.fields.bad_word.Goals as goal

pub overflow_cast-word : goal.overflow_cast-word
overflow_cast-word c =
    omega (arith, c.number-word.ensures, word_below c.args.s.now c.args.index c.requires.are_bits)

pub returns : goal.returns
unfolding bad_word_at
returns c =
    let index = c.args.index in
    ap {B = BadWord} (λ (kind : Kind). record { kind = kind; index = index }) (c.kind_of-kind.ensures ∙ ap kind_of c.number-word.ensures)
