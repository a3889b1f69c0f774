-- Demand 2 holds, by what the crates of encode and read prove of them. Assumes nothing.
use Rattle.encoder.proofs.Exact.{encodes_first}
use Rattle.reader.specs.declared.Asked.TheVariants.{Proper}
use Rattle.reader.proofs.Exact.{reads_exactly}
use Rattle.demands.specs.Demand2.{Demand2}

pub demand2 : Demand2
demand2 = record { encoder = encodes_first; reader = reads_exactly Proper }
