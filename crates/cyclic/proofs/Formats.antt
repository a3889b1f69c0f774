-- The computed facts, by format. Assumes nothing.
use Rattle.formats.specs.declared.format.Format.{Format}
use Rattle.formats.specs.declared.format.Format.TheVariants.{Long, Short}
use Rattle.formats.specs.Numbers.{numbers_of}
use Rattle.cyclic.proofs.Facts.{Facts, long_facts, short_facts}

pub facts_of : (format : Format) → Facts (numbers_of format)
facts_of Long = long_facts
facts_of Short = short_facts
