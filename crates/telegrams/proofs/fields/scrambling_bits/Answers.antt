-- `telegrams::fields::scrambling_bits` meets its contract. Assumes nothing.
use native.Mathlib.Omega.{arith}
use Rattle.telegrams.specs.Fields.{scrambling_of}
use Rattle.telegrams.proofs.fields.scrambling_bits.Goals as goal

pub field-requires : goal.field-requires
field-requires c =
    record {
      are_bits = c.requires.are_bits;
      format_in_bounds = c.requires.format_in_bounds;
      k_le_top = (omega arith, (omega arith, omega arith));
    }

pub returns : goal.returns
unfolding scrambling_of
returns c = c.field.ensures
