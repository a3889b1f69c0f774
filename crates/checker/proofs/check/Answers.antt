-- `checker::check` meets its contract. Assumes nothing.
use borrow.Author.Tests.{eq-eqb, ne_eqb}
use mathlib.Core.Path.{◌≡◌, sym, ap, ◌∙◌}
use lib.ListN.{length}
use Rattle.formats.specs.declared.format.Format.{Format}
use Rattle.formats.specs.Numbers.{numbers_of}
use Rattle.refusals.proofs.Table.{passed, failed}
use Rattle.checker.specs.Checking.{check_table, check_as, check_of}
use Rattle.checker.proofs.Steps.{decided, any_bytes}
use Rattle.bits.proofs.Tests.{holds}
use Rattle.checker.proofs.check.Goals as goal

pub returns-then-telegram-telegram_bits : goal.returns-then-telegram-telegram_bits
unfolding check_table
returns-then-telegram-telegram_bits c =
    let held : let b = c.args.telegram.now in check_as c.of_length-format.result b ≡ check_of b = ap (λ (f : Format). check_as f c.args.telegram.now) c.of_length-format.ensures ∙ sym (any_bytes _) in
    sym (decided _ _ _ (failed (ne_eqb _ _ (λ e. c.if-telegram-telegram_bits.true (e ∙ sym c.telegram_bits.ensures)))))
    ∙ held

pub returns-then-not-all_bits : goal.returns-then-not-all_bits
unfolding check_table
returns-then-not-all_bits c =
    let sized : length c.args.telegram.now ≡ (numbers_of c.of_length-format.result).n = c.if-telegram-telegram_bits.false ∙ c.telegram_bits.ensures in
    let held : let b = c.args.telegram.now in check_as c.of_length-format.result b ≡ check_of b = ap (λ (f : Format). check_as f c.args.telegram.now) c.of_length-format.ensures ∙ sym (any_bytes _) in
    sym (decided _ _ _ (passed (eq-eqb _ _ (sized)) (failed (sym c.all_bits.ensures ∙ c.if-not-all_bits.true))))
    ∙ held

pub invariant_of-check_form : goal.invariant_of-check_form
invariant_of-check_form c =
    let sized : length c.args.telegram.now ≡ (numbers_of c.of_length-format.result).n = c.if-telegram-telegram_bits.false ∙ c.telegram_bits.ensures in record {
      are_bits = holds _ (sym c.all_bits.ensures ∙ c.if-not-all_bits.false);
      size = sized;
    }

pub returns : goal.returns
returns c =
    let held : let b = c.args.telegram.now in check_as c.of_length-format.result b ≡ check_of b = ap (λ (f : Format). check_as f c.args.telegram.now) c.of_length-format.ensures ∙ sym (any_bytes _) in
    c.check_form.ensures ∙ held
