-- `conditions::repeating::not_repeating` meets its contract. Assumes nothing.
use mathlib.Core.Path.{sym, ap, ◌∙◌}
use Rattle.formats.specs.declared.format.Format.{Format}
use Rattle.formats.specs.Numbers.{numbers_of}
use Rattle.conditions.specs.Conditions.{not_repeating}
use Rattle.conditions.proofs.repeating.not_repeating.Goals as goal

pub each_shifted_apart-requires : goal.each_shifted_apart-requires
each_shifted_apart-requires c =
    c.args.telegram.size ∙ ap (λ (f : Format). (numbers_of f).n) c.in-Long.is

pub returns-in-Long : goal.returns-in-Long
unfolding not_repeating
returns-in-Long c =
    let b = c.args.telegram.bits.now in
    c.each_shifted_apart.ensures ∙ ap (λ (f : Format). not_repeating f b) (sym c.in-Long.is)

pub returns-in-Short : goal.returns-in-Short
unfolding not_repeating
returns-in-Short c =
    let b = c.args.telegram.bits.now in
    ap (λ (f : Format). not_repeating f b) (sym c.in-Short.is)
