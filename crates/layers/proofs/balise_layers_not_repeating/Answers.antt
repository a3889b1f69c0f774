-- `layers::balise_layers_not_repeating` meets its contract. Assumes nothing.
use mathlib.Core.Path.{sym, ap, ◌∙◌}
use Rattle.formats.specs.declared.format.Format.{Format}
use Rattle.formats.specs.Numbers.{numbers_of}
use Rattle.layers.proofs.balise_layers_not_repeating.Goals as goal

pub invariant_of-not_repeating : goal.invariant_of-not_repeating
invariant_of-not_repeating c =
    record { are_bits = c.requires.0; size = c.requires.1 ∙ ap (λ (x : Format). (numbers_of x).n) (sym c.format_of-format.ensures) }

pub returns : goal.returns
returns c = cc
