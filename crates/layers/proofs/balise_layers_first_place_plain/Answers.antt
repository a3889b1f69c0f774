-- `layers::balise_layers_first_place_plain` meets its contract. Assumes nothing.
use Rattle.layers.proofs.balise_layers_first_place_plain.Goals as goal

pub returns : goal.returns
returns c = c.place_or.ensures _ _ _ c.search_bits-plain.ensures
