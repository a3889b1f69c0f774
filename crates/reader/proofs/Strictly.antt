-- What read answers by what read_well_formed does (document 02, No. 2): its table is that of read_well_formed with the conditions behind it.
-- Assumes nothing.
use Prim.Native.Nat.{ℕ}
use mathlib.Core.Path.{◌≡◌, refl, sym, ap, ◌∙◌}
use mathlib.Core.List.{List}
use mathlib.Core.Logic.{◌⊎◌, inl, inr}
use native.Mathlib.Omega.{arith}
use lib.ListN.{length}
use Rattle.bits.proofs.Tests.{clash}
use Rattle.formats.specs.declared.format.Format.{Format}
use Rattle.formats.specs.Numbers.{numbers_of}
use Rattle.refusals.specs.declared.Refusal.{Refusal}
use Rattle.refusals.specs.Refused.{refusal_number}
use Rattle.refusals.specs.Table.{Verdict, refused, accepted, verdict, answer_by, outcome_by, Applies, Lowest}
use Rattle.refusals.specs.Outcome.{Outcome, outcome}
use Rattle.refusals.proofs.Table.{none_applies, verdict_more, lowest_given}
use Rattle.conditions.specs.FirstFailing.{condition_table}
use Rattle.conditions.proofs.FirstFailing.{conditions_rise}
use Rattle.reader.specs.declared.Asked.TheVariants.{WellFormed, Proper}
use Rattle.reader.specs.declared.Reading.{Reading}
use Rattle.reader.specs.Reads.{format_of, turn_in, telegram_in, telegram_table, read_table, read_out, read_of, read_well_formed_of}
use Rattle.reader.specs.ReadsExactly.{ReadsStrictly}
use Rattle.reader.proofs.Steps.{decided, any_window}
use Rattle.reader.proofs.Laws.{reading_format, read_one}
use Rattle.std.specs.Prelude.{Result, Ok, Err}

-- the telegram in a window that is to be the format's
abbrev found : Format → List ℕ → List ℕ
found format w = telegram_in (numbers_of format) (turn_in (numbers_of format) w) w

module _ (w out : List ℕ) where
  -- the verdicts of read_well_formed and of the conditions
  abbrev form : Verdict Refusal
  form = verdict (read_table WellFormed (format_of w) (length out) w)

  abbrev conditions : Verdict Refusal
  conditions = verdict (condition_table (format_of w) (found (format_of w) w))

  both : verdict (read_table Proper (format_of w) (length out) w) ≡ answer_by refused conditions form
  unfolding read_table telegram_table
  both = verdict_more (read_table WellFormed (format_of w) (length out) w) (condition_table (format_of w) (found (format_of w) w))

  well_formed_by : (v : Verdict Refusal) → form ≡ v → read_well_formed_of w out ≡ outcome_by Err out (read_out (format_of w) w out) v
  well_formed_by v e = any_window WellFormed w out ∙ decided WellFormed (format_of w) w out v e

  read_by : (v : Verdict Refusal) → form ≡ v
      → read_of w out ≡ outcome_by Err out (read_out (format_of w) w out) (answer_by refused conditions v)
  read_by v e = any_window Proper w out ∙ decided Proper (format_of w) w out (answer_by refused conditions v) (both ∙ ap (answer_by refused conditions) e)

  refused_alike_lem : (r : Refusal) → (read_well_formed_of w out).answer ≡ Err r → read_of w out ≡ read_well_formed_of w out
  refused_alike_lem r e = go form refl
    where
      go : (v : Verdict Refusal) → form ≡ v → read_of w out ≡ read_well_formed_of w out
      go (refused q) f = read_by (refused q) f ∙ sym (well_formed_by (refused q) f)
      go accepted f =
          let answers = sym (ap (λ (x : Outcome (Result Reading Refusal)). x.answer) (well_formed_by accepted f)) ∙ e in
          clash cc

  -- no condition fails and both do the same, or it is refused with the lowest that fails
  abbrev SameOrFails : Format → Type 0
  SameOrFails format =
      (((r : Refusal) → Applies (condition_table format (found format w)) r → ⊥) × (read_of w out ≡ read_well_formed_of w out))
      ⊎ ((r : Refusal) × (read_of w out ≡ outcome (Err r) out) × Lowest refusal_number (condition_table format (found format w)) r)

  by_conditions : form ≡ accepted → SameOrFails (format_of w)
  by_conditions f = go conditions refl
    where
      go : (v : Verdict Refusal) → conditions ≡ v → SameOrFails (format_of w)
      go accepted e =
          inl (
            none_applies (condition_table (format_of w) (found (format_of w) w)) e,
            read_by accepted f ∙ ap (outcome_by Err out (read_out (format_of w) w out)) e ∙ sym (well_formed_by accepted f),
          )
      go (refused r) e =
          inr (
            r,
            read_by accepted f ∙ ap (outcome_by Err out (read_out (format_of w) w out)) e,
            (lowest_given refusal_number (condition_table (format_of w) (found (format_of w) w))
                (conditions_rise (format_of w) (found (format_of w) w) 0 (omega arith)) r).0 e,
          )

  accepted_or_fails_lem : (reading : Reading) → (read_well_formed_of w out).answer ≡ Ok reading → SameOrFails reading.format
  accepted_or_fails_lem reading e = go form refl
    where
      go : (v : Verdict Refusal) → form ≡ v → SameOrFails reading.format
      go (refused q) f =
          let answers = sym (ap (λ (x : Outcome (Result Reading Refusal)). x.answer) (well_formed_by (refused q) f)) ∙ e in
          clash cc
      go accepted f =
          let answers = sym (ap (λ (x : Outcome (Result Reading Refusal)). x.answer) (well_formed_by accepted f)) ∙ e in
          let same : (read_out (format_of w) w out).answer ≡ Ok reading = answers in
          rw (← ap (λ (x : Reading). x.format) (read_one same), reading_format (format_of w) w) (by_conditions f)

pub reads_strictly : (w out : List ℕ) → ReadsStrictly w out
reads_strictly w out = record { refused_alike = refused_alike_lem w out; accepted_or_fails = accepted_or_fails_lem w out }
