-- `layers::balise_layers_remainder_fg` meets its contract. Assumes nothing.
use Rattle.layers.proofs.balise_layers_remainder_fg.Goals as goal

pub returns : goal.returns
returns c = cc
