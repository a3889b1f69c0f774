-- `layers::balise_layers_check_bits` meets its contract: the 85 digits written are the check bits. Assumes nothing.
use Rattle.cyclic.proofs.Machine.Lists.{check_list}
use Rattle.layers.proofs.balise_layers_check_bits.Goals as goal

pub returns : goal.returns
returns c =
    cc (check_list c.format_of-format.result c.args.bits.now c.check_bits-rest.ensures.result_value)
