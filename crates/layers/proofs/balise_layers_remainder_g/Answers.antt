-- `layers::balise_layers_remainder_g` meets its contract. Assumes nothing.
use Rattle.layers.proofs.balise_layers_remainder_g.Goals as goal

pub returns : goal.returns
returns c = cc
