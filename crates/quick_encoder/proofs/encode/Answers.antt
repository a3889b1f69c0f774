-- `quick_encoder::encode` meets its contract, by those of the tests, the search and the writing. Assumes nothing.
use mathlib.Core.Path.{ap, ◌∙◌}
use lib.Dec.{lit<}
use Rattle.std.proofs.lemmas.Result.{err_from_is_err_and}
use Rattle.encoder.specs.Searched.{pair_of}
use Rattle.encoder.proofs.Steps.{told}
use Rattle.quick_encoder.proofs.OneScrambling.{from_the_first}
use Rattle.quick_encoder.proofs.encode.Goals as goal

pub pair_from-first-requires : goal.pair_from-first-requires
pair_from-first-requires c =
    let clean = told _ c.args.output.now _ _ c.test.ensures c.in_ok-format.was in record {
      are_bits = clean.bits;
      block_len = clean.size;
      pair_bound = (lit< tt, lit< tt);
    }

pub invariant_of-write_found : goal.invariant_of-write_found
invariant_of-write_found c =
    let clean = told _ c.args.output.now _ _ c.test.ensures c.in_ok-format.was in record {
      are_bits = clean.bits;
      size = clean.size;
    }

pub write_found-requires : goal.write_found-requires
write_found-requires c =
    record {
      room = (told _ c.args.output.now _ _ c.test.ensures c.in_ok-format.was).room;
      first_value = c.pair_from-first.ensures ∙ ap pair_of (from_the_first _ _);
    }

pub returns-in_err-format : goal.returns-in_err-format
returns-in_err-format c =
    let p = err_from_is_err_and c.from_residual.result c.from_residual.ensures.1 in
    rw (p.1, p.2) (told _ _ _ _ c.test.ensures c.in_err-format.was)
