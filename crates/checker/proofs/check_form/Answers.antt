-- `checker::check_form` meets its contract: a verdict for each test reached. Assumes nothing.
use borrow.Author.Tests.{eq-eqb}
use mathlib.Core.Path.{◌≡◌, sym, ap, ◌∙◌}
use mathlib.Core.Bool.{true}
use mathlib.Core.List.{List}
use Prim.Native.Nat.{ℕ}
use lib.Dec.{T}
use lib.ListN.{length, drop}
use Rattle.bits.specs.Bits.{all_bits, same}
use Rattle.bits.proofs.Tests.{is_true, holds}
use Rattle.formats.specs.declared.format.Format.{Format}
use Rattle.formats.specs.Numbers.{numbers_of}
use Rattle.refusals.specs.declared.Refusal.{Refusal}
use Rattle.refusals.specs.declared.Refusal.TheVariants.{NotWord}
use Rattle.refusals.specs.Table.{Verdict, answer_by}
use Rattle.refusals.proofs.Table.{Decides, passed, failed}
use Rattle.cyclic.specs.Check.{divisible, unturned}
use Rattle.telegrams.specs.Telegram.{control}
use Rattle.telegrams.specs.Fields.{control_of}
use Rattle.telegrams.specs.Worded.{worded}
use Rattle.telegrams.proofs.FirstBad.{whole_all, not_word_some}
use Rattle.checker.specs.Checking.{check_table, check_as}
use Rattle.checker.proofs.Steps.{decided}
use Rattle.checker.proofs.WellFormed.{is_well_formed}
use Rattle.checker.proofs.check_form.Goals as goal
use Rattle.std.specs.Prelude.{Ok, Err}
use Rattle.std.proofs.lemmas.Result.{err_from_is_err_and}

-- what the tests from divisibility on decide
answered : (format : Format) (telegram : List ℕ) → T (all_bits telegram) × (length telegram ≡ (numbers_of format).n) → (v : Verdict Refusal)
    → Decides (drop 2 (check_table format telegram)) v → answer_by Err (Ok format) v ≡ check_as format telegram
unfolding check_table
answered format telegram h v d = sym (decided _ _ v (passed (eq-eqb _ _ h.1) (passed (is_true (all_bits telegram) h.0) d)))

pub returns-then-not-divisible : goal.returns-then-not-divisible
unfolding check_table
returns-then-not-divisible c = answered _ _ (c.args.telegram.are_bits, c.args.telegram.size) _ (failed (sym c.divisible.ensures ∙ c.if-not-divisible.true))

pub returns-then-not-unturned : goal.returns-then-not-unturned
unfolding check_table
returns-then-not-unturned c =
    let divides : divisible (numbers_of c.args.telegram.format) c.args.telegram.bits.now ≡ true = sym c.divisible.ensures ∙ c.if-not-divisible.false in
    answered _ _ (c.args.telegram.are_bits, c.args.telegram.size) _ (passed divides (failed (sym c.unturned.ensures ∙ c.if-not-unturned.true)))

pub returns-then-not-has_control : goal.returns-then-not-has_control
unfolding check_table
returns-then-not-has_control c =
    let divides : divisible (numbers_of c.args.telegram.format) c.args.telegram.bits.now ≡ true = sym c.divisible.ensures ∙ c.if-not-divisible.false in
    let turned_0 : unturned (numbers_of c.args.telegram.format) c.args.telegram.bits.now ≡ true = sym c.unturned.ensures ∙ c.if-not-unturned.false in
    answered _ _ (c.args.telegram.are_bits, c.args.telegram.size) _
    (passed divides (passed turned_0 (failed (sym c.has_control.ensures ∙ c.if-not-has_control.true))))

pub returns-in_err-go_through : goal.returns-in_err-go_through
unfolding check_table
returns-in_err-go_through c =
    let divides : divisible (numbers_of c.args.telegram.format) c.args.telegram.bits.now ≡ true = sym c.divisible.ensures ∙ c.if-not-divisible.false in
    let turned_0 : unturned (numbers_of c.args.telegram.format) c.args.telegram.bits.now ≡ true = sym c.unturned.ensures ∙ c.if-not-unturned.false in
    let controlled : same (control_of (numbers_of c.args.telegram.format) c.args.telegram.bits.now) control ≡ true = sym c.has_control.ensures ∙ c.if-not-has_control.false in
    let told : c.go_through.result ≡ worded (numbers_of c.args.telegram.format).words c.args.telegram.bits.now =
    c.go_through.ensures ∙ ap (λ (k : ℕ). worded k c.args.telegram.bits.now) c.words.ensures in
    let (some, is) = not_word_some _ _ c.in_err-go_through.field-0.0 (sym told ∙ c.in_err-go_through.was) in
    let given = err_from_is_err_and c.from_residual.result c.from_residual.ensures.1 in
    given.1 ∙ ap Err (given.2 ∙ ap NotWord (sym is))
    ∙ answered _ _ (c.args.telegram.are_bits, c.args.telegram.size) _ (passed divides (passed turned_0 (passed controlled (failed some))))

pub check_conditions-requires : goal.check_conditions-requires
check_conditions-requires c =
    let divides : divisible (numbers_of c.args.telegram.format) c.args.telegram.bits.now ≡ true = sym c.divisible.ensures ∙ c.if-not-divisible.false in
    let turned_0 : unturned (numbers_of c.args.telegram.format) c.args.telegram.bits.now ≡ true = sym c.unturned.ensures ∙ c.if-not-unturned.false in
    let controlled : same (control_of (numbers_of c.args.telegram.format) c.args.telegram.bits.now) control ≡ true = sym c.has_control.ensures ∙ c.if-not-has_control.false in
    let told : c.go_through.result ≡ worded (numbers_of c.args.telegram.format).words c.args.telegram.bits.now =
    c.go_through.ensures ∙ ap (λ (k : ℕ). worded k c.args.telegram.bits.now) c.words.ensures in
    is_well_formed c.args.telegram.format c.args.telegram.bits.now
    record {
      size = c.args.telegram.size;
      bits = c.args.telegram.are_bits;
      divides = holds _ divides;
      turn = holds _ turned_0;
      has_control = holds _ controlled;
    }
    (holds _ (whole_all _ _ (sym told ∙ c.in_ok-go_through.was)))
