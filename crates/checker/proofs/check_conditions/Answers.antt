-- `checker::check_conditions` meets its contract, by that of `conditions::first_failing`. Assumes nothing.
use mathlib.Core.Path.{◌≡◌, sym, ap, ◌∙◌}
use mathlib.Core.List.{List}
use Prim.Native.Nat.{ℕ}
use lib.Dec.{T}
use Rattle.formats.specs.declared.format.Format.{Format}
use Rattle.formats.specs.Numbers.{numbers_of}
use Rattle.refusals.specs.declared.Refusal.{Refusal}
use Rattle.refusals.specs.Table.{Verdict, verdict, answer_by}
use Rattle.telegrams.specs.Fields.{well_formed}
use Rattle.conditions.specs.FirstFailing.{condition_table}
use Rattle.conditions.proofs.FirstFailing.{failing_is, first_refused, none_accepted}
use Rattle.checker.specs.Checking.{check_as}
use Rattle.checker.proofs.Steps.{decided}
use Rattle.checker.proofs.WellFormed.{form_passed}
use Rattle.checker.proofs.check_conditions.Goals as goal
use Rattle.std.specs.Prelude.{Ok, Err}
use Rattle.std.proofs.lemmas.Result.{err_from_is_err_and}

-- the verdict is that of the conditions
answered : (format : Format) (telegram : List ℕ) → T (well_formed (numbers_of format) telegram) → (v : Verdict Refusal)
    → verdict (condition_table format telegram) ≡ v → answer_by Err (Ok format) v ≡ check_as format telegram
answered format telegram h v e = sym (decided _ _ v (form_passed _ _ h v (record { verdict_is = e })))

pub returns-in_err-first_failing : goal.returns-in_err-first_failing
returns-in_err-first_failing c =
    let given = err_from_is_err_and c.from_residual.result c.from_residual.ensures.1 in
    given.1 ∙ ap Err given.2
    ∙ answered _ _ c.requires _
    (first_refused _ c.in_err-first_failing.field-0.0 (sym (failing_is _ _) ∙ sym c.first_failing.ensures ∙ c.in_err-first_failing.was))

pub returns : goal.returns
returns c =
    answered _ _ c.requires _ (none_accepted _ (sym (failing_is _ _) ∙ sym c.first_failing.ensures ∙ c.in_ok-first_failing.was))
