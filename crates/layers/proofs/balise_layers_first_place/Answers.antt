-- `layers::balise_layers_first_place` meets its contract. Assumes nothing.
use Rattle.layers.proofs.balise_layers_first_place.Goals as goal

pub returns : goal.returns
returns c = c.place_or.ensures _ _ _ c.search_bits-found.ensures
