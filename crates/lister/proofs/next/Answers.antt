-- `lister::next` meets its contract, by those of the tests and of the writing. Assumes nothing.
use mathlib.Core.Path.{sym, ◌∙◌}
use native.Mathlib.Omega.{arith}
use Rattle.std.proofs.lemmas.Result.{err_from_is_err_and}
use Rattle.maker.proofs.PairTests.{tested_refused, clean_in_order}
use Rattle.lister.proofs.Steps.{tests_refuse}
use Rattle.lister.proofs.next.Goals as goal

pub overflow_cast-from : goal.overflow_cast-from
overflow_cast-from c = omega (arith, (clean_in_order _ _ _ _ c.args.output.now (sym c.test.ensures ∙ c.in_ok-format.was)).scrambling)

pub overflow_cast-from-2 : goal.overflow_cast-from-2
overflow_cast-from-2 c = omega (arith, (clean_in_order _ _ _ _ c.args.output.now (sym c.test.ensures ∙ c.in_ok-format.was)).shaping)

pub write_next-requires : goal.write_next-requires
write_next-requires c = clean_in_order _ _ _ _ _ (sym c.test.ensures ∙ c.in_ok-format.was)

pub returns-in_err-format : goal.returns-in_err-format
returns-in_err-format c =
    let p = err_from_is_err_and c.from_residual.result c.from_residual.ensures.1 in
    rw (p.1, p.2) (tests_refuse _ _ _ _ _ (tested_refused _ _ _ _ _ (sym c.test.ensures ∙ c.in_err-format.was)))
