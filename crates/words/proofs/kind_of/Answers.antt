-- `words::kind_of` meets its contract: the word's bit in each group tells. Assumes nothing.
use mathlib.Core.Path.{◌≡◌, sym, ◌∙◌}
use mathlib.Core.Bool.{false}
use borrow.Author.Tests.{eq-eqb, ne_eqb}
use Rattle.words.specs.Words.{kind_of, in_group250}
use Rattle.words.proofs.KindBits.{told250, told20}
use Rattle.words.proofs.kind_of.Goals as goal

pub returns-then-barred-place-eq1 : goal.returns-then-barred-place-eq1
unfolding kind_of
returns-then-barred-place-eq1 c =
    rw (sym (told250 c.args.word _ c.barred_at-barred.ensures.0) ∙ eq-eqb _ 1 c.if-barred-place-eq1.true)

pub returns-then-barred-place-eq1-2 : goal.returns-then-barred-place-eq1-2
unfolding kind_of
returns-then-barred-place-eq1-2 c =
    let not250 : in_group250 c.args.word ≡ false = sym (told250 c.args.word _ c.barred_at-barred.ensures.0) ∙ ne_eqb _ 1 c.if-barred-place-eq1.false in
    rw (not250, sym (told20 c.args.word _ c.barred_at-barred.ensures.1) ∙ eq-eqb _ 1 c.if-barred-place-eq1-2.true)

pub returns : goal.returns
unfolding kind_of
returns c =
    let not250 : in_group250 c.args.word ≡ false = sym (told250 c.args.word _ c.barred_at-barred.ensures.0) ∙ ne_eqb _ 1 c.if-barred-place-eq1.false in
    rw (not250, sym (told20 c.args.word _ c.barred_at-barred.ensures.1) ∙ ne_eqb _ 1 c.if-barred-place-eq1-2.false)
