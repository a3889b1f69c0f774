-- `quick_search::search_read` meets its contract, by those of the tests and of the quick search. Assumes nothing.
use mathlib.Core.Path.{◌∙◌}
use Rattle.std.proofs.lemmas.Result.{err_from_is_err_and}
use Rattle.captures.proofs.Steps.{told, by_place}
use Rattle.quick_search.proofs.search_read.Goals as goal

pub search_bits-requires : goal.search_bits-requires
search_bits-requires c =
    let clean = told _ c.args.output.now _ _ c.test.ensures c.in_ok-test.was in record {
      are_bits = clean.bits;
      m_in_bounds = clean.room;
    }

pub returns-in_err-test : goal.returns-in_err-test
returns-in_err-test c =
    let given = err_from_is_err_and c.from_residual.result c.from_residual.ensures.1 in
    rw (given.1, given.2) (told _ _ _ _ c.test.ensures c.in_err-test.was)

pub returns : goal.returns
returns c =
    by_place _ _ (told _ _ _ _ c.test.ensures c.in_ok-test.was) ∙ c.search_bits.ensures
