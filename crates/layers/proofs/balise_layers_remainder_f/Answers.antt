-- `layers::balise_layers_remainder_f` meets its contract. Assumes nothing.
use Rattle.layers.proofs.balise_layers_remainder_f.Goals as goal

pub returns : goal.returns
returns c = cc
