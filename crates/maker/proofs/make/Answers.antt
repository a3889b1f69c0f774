-- `maker::make` meets its contract, by those of the tests and of the writing. Assumes nothing.
use mathlib.Core.Path.{sym, ◌∙◌}
use native.Mathlib.Omega.{arith}
use Rattle.std.proofs.lemmas.Result.{err_from_is_err_and}
use Rattle.maker.proofs.PairTests.{tested_refused, clean_in_order}
use Rattle.maker.proofs.Steps.{tests_refuse}
use Rattle.maker.proofs.make.Goals as goal

pub overflow_cast-pair : goal.overflow_cast-pair
overflow_cast-pair c = omega (arith, (clean_in_order _ _ _ _ c.args.output.now (sym c.test.ensures ∙ c.in_ok-format.was)).scrambling)

pub overflow_cast-pair-2 : goal.overflow_cast-pair-2
overflow_cast-pair-2 c = omega (arith, (clean_in_order _ _ _ _ c.args.output.now (sym c.test.ensures ∙ c.in_ok-format.was)).shaping)

pub write_telegram-requires : goal.write_telegram-requires
write_telegram-requires c = clean_in_order _ _ _ _ _ (sym c.test.ensures ∙ c.in_ok-format.was)

pub returns-in_err-format : goal.returns-in_err-format
returns-in_err-format c =
    let p = err_from_is_err_and c.from_residual.result c.from_residual.ensures.1 in
    rw (p.1, p.2) (tests_refuse _ _ _ _ _ (tested_refused _ _ _ _ _ (sym c.test.ensures ∙ c.in_err-format.was)))
