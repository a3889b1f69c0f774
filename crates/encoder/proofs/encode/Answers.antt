-- `encoder::encode` meets its contract, by those of the tests, the search and the writing. Assumes nothing.
use Rattle.std.proofs.lemmas.Result.{err_from_is_err_and}
use Rattle.encoder.proofs.Steps.{told}
use Rattle.encoder.proofs.encode.Goals as goal

pub first_pair-first-requires : goal.first_pair-first-requires
first_pair-first-requires c =
    let clean = told _ c.args.output.now _ _ c.test.ensures c.in_ok-format.was in record {
      are_bits = clean.bits;
      block_len = clean.size;
    }

pub invariant_of-write_found : goal.invariant_of-write_found
invariant_of-write_found c =
    let clean = told _ c.args.output.now _ _ c.test.ensures c.in_ok-format.was in record {
      are_bits = clean.bits;
      size = clean.size;
    }

pub write_found-requires : goal.write_found-requires
write_found-requires c =
    record {
      room = (told _ c.args.output.now _ _ c.test.ensures c.in_ok-format.was).room;
      first_value = c.first_pair-first.ensures;
    }

pub returns-in_err-format : goal.returns-in_err-format
returns-in_err-format c =
    let p = err_from_is_err_and c.from_residual.result c.from_residual.ensures.1 in
    rw (p.1, p.2) (told _ _ _ _ c.test.ensures c.in_err-format.was)
