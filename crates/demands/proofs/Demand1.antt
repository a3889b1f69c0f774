-- Demand 1 holds, by what each call's crate proves of it. Assumes nothing.
use Rattle.encoder.proofs.Exact.{encode_answers}
use Rattle.checker.proofs.Exact.{checks}
use Rattle.maker.proofs.Exact.{make_answers}
use Rattle.lister.proofs.Exact.{next-answers}
use Rattle.reader.specs.declared.Asked.TheVariants.{WellFormed, Proper}
use Rattle.reader.proofs.Exact.{read_answers}
use Rattle.captures.proofs.Exact.{searches}
use Rattle.demands.specs.Demand1.{Demand1}

pub demand1 : Demand1
demand1 =
    record {
      encode = encode_answers;
      check = λ b. (checks b).refuses;
      make = make_answers;
      next = next-answers;
      read = read_answers Proper;
      read_well_formed = read_answers WellFormed;
      search = λ s. (searches s).refuses;
    }
