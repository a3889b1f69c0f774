-- Checking is exact (document 01, "When the bench says no" and "What the bench can be held to"): it accepts the proper telegrams and no
-- others, each refusal number is given exactly where it is the lowest that applies, and 9 carries the first bad word. Assumes nothing.
use Prim.Native.Nat.{ℕ}
use mathlib.Core.Path.{◌≡◌, refl, sym, ap, subst, ◌∙◌}
use mathlib.Core.Bool.{Bool, false, not}
use mathlib.Core.Logic.{◌↔◌}
use mathlib.Core.List.{List}
use native.Mathlib.Omega.{arith}
use borrow.Author.Tests.{eqb-true, not-true, not-false}
use lib.Dec.{T, eqb}
use lib.ListN.{length}
use Rattle.bits.specs.Bits.{all_bits, same}
use Rattle.bits.proofs.Tests.{clash, is_true, holds}
use Rattle.formats.specs.declared.format.Format.{Format}
use Rattle.formats.specs.Numbers.{numbers_of}
use Rattle.words.specs.declared.BadWord.{BadWord}
use Rattle.refusals.specs.declared.Refusal.{Refusal}
use Rattle.refusals.specs.declared.Refusal.TheVariants.{NotWord}
use Rattle.refusals.specs.Refused.{refusal_number}
use Rattle.refusals.specs.Table.{Verdict, refused, accepted, verdict, answer_by, RefusesBy, rises_above}
use Rattle.refusals.proofs.Table.{NoRow, accepted_no_row, no_row_accepted, failed, answer_said, refuses_by, refused_first, later_row, this_row}
use Rattle.cyclic.specs.Check.{divisible, unturned}
use Rattle.telegrams.specs.Telegram.{control}
use Rattle.telegrams.specs.Fields.{control_of, all_words}
use Rattle.telegrams.specs.Worded.{IsFirstBad, ControlAndCheck}
use Rattle.telegrams.proofs.FirstBad.{first_bad_lem}
use Rattle.telegrams.proofs.WellFormed.{parts}
use Rattle.conditions.specs.Conditions.{proper}
use Rattle.conditions.specs.FirstFailing.{condition_table}
use Rattle.conditions.proofs.FirstFailing.{conditions_rise, proper_tested}
use Rattle.checker.specs.Checking.{format_of, check_table, check_as, check_of}
use Rattle.checker.specs.Checks.{Checks}
use Rattle.checker.proofs.Steps.{decided, any_bytes, format_is}
use Rattle.checker.proofs.WellFormed.{Formed, control_and_check, is_well_formed, formed_passed, form_passed}
use Rattle.std.specs.Prelude.{Result, Ok, Err}

-- ---- refusals

-- what an answer says
abbrev said : Result Format Refusal → Verdict Refusal
said (Ok format) = accepted
said (Err r) = refused r

refused_only : (a : Result Format Refusal) (r : Refusal) → said a ≡ refused r → a ≡ Err r
refused_only (Ok format) r e = clash cc
refused_only (Err q) r e = cc

rises : (format : Format) (b : List ℕ) → T (rises_above refusal_number 0 (check_table format b))
unfolding rises_above check_table
rises format b = conditions_rise format b 9 (omega arith)

said_is : (b : List ℕ) → said (check_of b) ≡ verdict (check_table (format_of b) b)
unfolding check_of check_as
said_is b = answer_said Err said (λ r. refl) (Ok (format_of b)) refl (verdict (check_table (format_of b) b))

refuses : (b : List ℕ) → RefusesBy refusal_number Err (check_table (format_of b) b) (check_of b)
refuses b =
    refuses_by Err said (λ r. refl) refused_only refusal_number (check_table (format_of b) b) (rises (format_of b) b) (check_of b) (said_is b)

-- ---- the proper telegrams

-- a test that does not refuse holds
held : (t : Bool) → not t ≡ false → T t
held t e = holds t (not-false t e)

-- the rows before 9 do not apply
rows_formed : (format : Format) (b : List ℕ) → let F = numbers_of format in
    not (eqb (length b) F.n) ≡ false → not (all_bits b) ≡ false → not (divisible F b) ≡ false → not (unturned F b) ≡ false
    → not (same (control_of F b) control) ≡ false → Formed format b
rows_formed format b size bits divides turn controlled =
    let F = numbers_of format in
    record {
      size = eqb-true (length b) F.n (not-false (eqb (length b) F.n) size);
      bits = held (all_bits b) bits;
      divides = held (divisible F b) divides;
      turn = held (unturned F b) turn;
      has_control = held (same (control_of F b) control) controlled;
    }

no_row_proper : (format : Format) (b : List ℕ) → NoRow (check_table format b) → T (proper format b)
unfolding NoRow check_table
no_row_proper format b (size, (bits, (divides, (turn, (controlled, (words, conditions)))))) =
    let F = numbers_of format in
    let formed = is_well_formed format b (rows_formed format b size bits divides turn controlled) (held (all_words F.words b) words) in
    (proper_tested format b).1 (formed, no_row_accepted (condition_table format b) conditions)

accepted_proper : (format : Format) (b : List ℕ) (v : Verdict Refusal) → verdict (check_table (format_of b) b) ≡ v
    → answer_by Err (Ok (format_of b)) v ≡ Ok format → T (proper format b)
accepted_proper format b (refused r) e f = clash cc
accepted_proper format b accepted e f =
    let same : format_of b ≡ format = cc in
    subst (λ (g : Format). T (proper g b)) same (no_row_proper (format_of b) b (accepted_no_row (check_table (format_of b) b) e))

proper_accepted : (format : Format) (b : List ℕ) → T (proper format b) → check_of b ≡ Ok format
proper_accepted format b h =
    let (well, conditions) = (proper_tested format b).0 h in
    any_bytes b
    ∙ ap (λ (f : Format). check_as f b) (format_is format b (parts (numbers_of format) b well).size)
    ∙ decided format b accepted (form_passed format b well accepted (record { verdict_is = conditions }))

-- the proper telegrams are accepted, and no others
accepts : (format : Format) (b : List ℕ) → (check_of b ≡ Ok format) ↔ T (proper format b)
unfolding check_of check_as
accepts format b = (accepted_proper format b (verdict (check_table (format_of b) b)) refl, proper_accepted format b)

-- ---- the bad word that refusal 9 carries

-- where the table gives 9, the rows before it do not apply, and its own does
refused_named : (format : Format) (b : List ℕ) (bad : BadWord) → verdict (check_table format b) ≡ refused (NotWord bad)
    → ControlAndCheck (numbers_of format) b × IsFirstBad (numbers_of format).words b bad
unfolding check_table
refused_named format b bad e =
    let F = numbers_of format in
    let (size, f) = later_row refusal_number tt (refused_first (check_table format b) (NotWord bad) e) in
    let (bits, f) = later_row refusal_number tt f in
    let (divides, f) = later_row refusal_number tt f in
    let (turn, f) = later_row refusal_number tt f in
    let (controlled, f) = later_row refusal_number tt f in
    let (is, some) = this_row refusal_number (conditions_rise format b 9 (omega arith)) f in (
      control_and_check format b (rows_formed format b size bits divides turn controlled),
      (first_bad_lem b F.words bad).0 (not-true (all_words F.words b) (is_true (not (all_words F.words b)) some), cc),
    )

-- and the other way
named_refused : (format : Format) (b : List ℕ) (bad : BadWord) → ControlAndCheck (numbers_of format) b → IsFirstBad (numbers_of format).words b bad
    → check_of b ≡ Err (NotWord bad)
unfolding check_table
named_refused format b bad c first =
    let F = numbers_of format in
    let (some, is) = (first_bad_lem b F.words bad).1 first in
    any_bytes b
    ∙ ap (λ (f : Format). check_as f b) (format_is format b c.size)
    ∙ decided format b _ (formed_passed format b c _ (failed some))
    ∙ ap (λ (x : BadWord). Err (NotWord x)) is

names : (b : List ℕ) (bad : BadWord)
    → (check_of b ≡ Err (NotWord bad)) ↔ (let F = numbers_of (format_of b) in ControlAndCheck F b × IsFirstBad F.words b bad)
names b bad = (
  λ e. refused_named (format_of b) b bad (sym (said_is b) ∙ ap said e),
  λ p. named_refused (format_of b) b bad p.0 p.1,
)

-- all, as `Checks` states them
pub checks : (b : List ℕ) → Checks b
checks b = record { refuses = refuses b; accepts = λ format. accepts format b; names = names b }
