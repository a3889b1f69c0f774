-- `conditions::first_failing` meets its contract: a verdict for each test reached. Assumes nothing.
use mathlib.Core.Path.{◌≡◌, sym, ap, ◌∙◌}
use mathlib.Core.List.{List}
use Prim.Native.Nat.{ℕ}
use Rattle.formats.specs.declared.format.Format.{Format}
use Rattle.refusals.specs.declared.Refusal.{Refusal}
use Rattle.refusals.specs.Table.{Verdict, answer_by}
use Rattle.refusals.proofs.Table.{Decides, passed, failed, all_passed}
use Rattle.conditions.specs.FirstFailing.{condition_table, first_failing}
use Rattle.conditions.proofs.FirstFailing.{failing_is}
use Rattle.conditions.proofs.first_failing.Goals as goal
use Rattle.std.specs.Prelude.{Ok, Err}

-- the answer by the verdict
answered : (format : Format) (b : List ℕ) (v : Verdict Refusal) → Decides (condition_table format b) v → answer_by Err (Ok (tt {0})) v ≡ first_failing format b
answered format b v d = ap (answer_by Err (Ok (tt {0}))) (sym d.verdict_is) ∙ sym (failing_is _ _)

pub returns-then-not-within : goal.returns-then-not-within
unfolding condition_table
returns-then-not-within c = answered _ _ _ (failed (sym c.within.ensures ∙ c.if-not-within.true))

pub returns-then-not-not_repeating : goal.returns-then-not-not_repeating
unfolding condition_table
returns-then-not-not_repeating c =
    answered _ _ _
    (passed (sym c.within.ensures ∙ c.if-not-within.false)
    (failed (sym c.not_repeating.ensures ∙ c.if-not-not_repeating.true)))

pub returns-then-not-within-2 : goal.returns-then-not-within-2
unfolding condition_table
returns-then-not-within-2 c =
    answered _ _ _
    (passed (sym c.within.ensures ∙ c.if-not-within.false)
    (passed (sym c.not_repeating.ensures ∙ c.if-not-not_repeating.false)
    (failed (sym c.within-2.ensures ∙ c.if-not-within-2.true))))

pub returns : goal.returns
unfolding condition_table
returns c =
    answered _ _ _
    (passed (sym c.within.ensures ∙ c.if-not-within.false)
    (passed (sym c.not_repeating.ensures ∙ c.if-not-not_repeating.false)
    (passed (sym c.within-2.ensures ∙ c.if-not-within-2.false) all_passed)))
