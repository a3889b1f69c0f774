-- Some block of each format has a proper pair, so that no part of demand 3 is empty. Assumes nothing.
use Rattle.formats.specs.declared.format.Format.{Format}
use Rattle.witnesses.specs.Pairs as pairs
use Rattle.witnesses.proofs.Blocks as blocks
use Rattle.demands.specs.Demand3.{SomeProper}

pub some_proper : (format : Format) → SomeProper format (pairs.ones_of format)
some_proper format =
    record {
      bits = blocks.ones_bits format;
      size = blocks.ones_size format;
      scrambling = pairs.scrambling format;
      shaping = pairs.shaping format;
      scrambling_below = blocks.scrambling_below format;
      shaping_below = blocks.shaping_below format;
      proper_pair = blocks.ones-proper format;
    }
