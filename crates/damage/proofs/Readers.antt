-- A reader with any tests for refusals 5 and 6: where it gives them, 3 and 7, and where it cannot give 5 and 6. Assumes nothing.
use Prim.Native.Nat.{ℕ, ◌≤◌, ◌<◌}
use mathlib.Core.Bool.{true, false, not}
use mathlib.Core.Path.{◌≡◌, refl, sym, ap, ◌∙◌}
use mathlib.Core.List.{List}
use native.Mathlib.Omega.{arith}
use borrow.Author.Tests.{le-leb, lt-leb, eq-eqb, not-true}
use lib.Dec.{T}
use lib.ListN.{length, drop}
use Rattle.bits.specs.Bits.{all_bits}
use Rattle.bits.proofs.Tests.{is_true, holds, fails}
use Rattle.formats.specs.declared.format.Format.{Format}
use Rattle.formats.specs.Numbers.{numbers_of, window_bits}
use Rattle.refusals.specs.declared.Refusal.{Refusal}
use Rattle.refusals.specs.declared.Refusal.TheVariants.{OutputShort, EndsDiffer, NotDivisible, NoTurn}
use Rattle.refusals.specs.Refused.{refusal_number}
use Rattle.refusals.specs.Table.{refused, verdict, rises_above}
use Rattle.refusals.specs.Outcome.{Outcome, outcome}
use Rattle.refusals.proofs.Table.{answer_by_lem, answer_said, refused_first, later_row, this_row}
use Rattle.conditions.proofs.FirstFailing.{conditions_rise}
use Rattle.reader.specs.declared.Asked.{Asked}
use Rattle.reader.specs.declared.Asked.TheVariants.{Proper, WellFormed}
use Rattle.reader.specs.Reads.{format_of, turn_found, turn_in, telegram_in, telegram_table, read_table, read_out}
use Rattle.reader.proofs.Steps.{format_of_lem}
use Rattle.reader.proofs.Exact.{said}
use Rattle.damage.specs.Answers.{OneOf, RefusedWith}
use Rattle.damage.specs.Readers.{Tests, table_with, read_with}
use Rattle.std.specs.Prelude.{Result, None, Err}
use Rattle.reader.specs.declared.Reading.{Reading}

-- ---- where they are given

module _ (tests : Tests) (asked : Asked) (format : Format) (w out : List ℕ) (size : length w ≡ window_bits (numbers_of format))
    (bits : all_bits w ≡ true) where
  -- 3: the output is too short
  pub given_3 : length out < (numbers_of format).m → read_with tests asked w out ≡ outcome (Err OutputShort) out
  unfolding read_with table_with read_table verdict
  given_3 lacks = rw (format_of_lem format w size, eq-eqb (length w) (window_bits (numbers_of format)) size, bits, lt-leb (numbers_of format).m (length out) lacks)

  -- so what is refused with room is refused without
  pub refused_with_lem : (refusals : List Refusal) → ((numbers_of format).m ≤ length out → OneOf refusals out (read_with tests asked w out))
      → RefusedWith refusals format out (read_with tests asked w out)
  refused_with_lem refusals h = record { without_room = given_3; with_room = h }

  module _ (room : (numbers_of format).m ≤ length out) where
    -- 5: the first test fails
    pub given_5 : tests.ends (numbers_of format) w ≡ false → read_with tests asked w out ≡ outcome (Err EndsDiffer) out
    unfolding read_with table_with read_table verdict
    given_5 e = rw (format_of_lem format w size, eq-eqb (length w) (window_bits (numbers_of format)) size, bits, le-leb (numbers_of format).m (length out) room, e)

    -- 6: the first holds and the second fails
    pub given_6 : tests.ends (numbers_of format) w ≡ true → tests.divided (numbers_of format) w ≡ false
        → read_with tests asked w out ≡ outcome (Err NotDivisible) out
    unfolding read_with table_with read_table verdict
    given_6 e d =
        rw (format_of_lem format w size, eq-eqb (length w) (window_bits (numbers_of format)) size, bits, le-leb (numbers_of format).m (length out) room, e, d)

    -- 7: both hold, and the first n bits have the remainder of no turn
    pub given_7 : tests.ends (numbers_of format) w ≡ true → tests.divided (numbers_of format) w ≡ true → turn_found (numbers_of format) w ≡ None
        → read_with tests asked w out ≡ outcome (Err NoTurn) out
    unfolding read_with table_with read_table verdict
    given_7 e d f =
        rw
        (format_of_lem format w size, eq-eqb (length w) (window_bits (numbers_of format)) size, bits, le-leb (numbers_of format).m (length out) room, e, d, f)

-- ---- and only there

-- the rows after those two have numbers above 6
later_rise : (asked : Asked) (format : Format) (room : ℕ) (w : List ℕ) → T (rises_above refusal_number 6 (drop 5 (read_table asked format room w)))
unfolding read_table telegram_table rises_above
later_rise WellFormed format room w = tt
later_rise Proper format room w = conditions_rise format (telegram_in (numbers_of format) (turn_in (numbers_of format) w) w) 9 (omega arith)

module _ (tests : Tests) (asked : Asked) (w out : List ℕ) where
  -- the verdict of its table, from the answer
  verdict_with : (r : Refusal) → read_with tests asked w out ≡ outcome (Err r) out → verdict (table_with tests asked (format_of w) (length out) w) ≡ refused r
  unfolding read_with
  verdict_with r e =
      let format = format_of w in
      let v = verdict (table_with tests asked format (length out) w) in
      sym (ap said (answer_by_lem Err out (read_out format w out) v) ∙ answer_said Err said (λ r. refl) (read_out format w out).answer refl v)
      ∙ ap (λ (x : Outcome (Result Reading Refusal)). said x.answer) e

  -- 5 is given only where the first test fails
  pub only_5 : read_with tests asked w out ≡ outcome (Err EndsDiffer) out → tests.ends (numbers_of (format_of w)) w ≡ false
  unfolding table_with read_table rises_above
  only_5 e =
      let format = format_of w in
      let (size, f) = later_row refusal_number tt (refused_first (table_with tests asked format (length out) w) EndsDiffer (verdict_with EndsDiffer e)) in
      let (bits, f) = later_row refusal_number tt f in
      let (roomy, f) = later_row refusal_number tt f in
      let (is, some) = this_row refusal_number (later_rise asked format (length out) w) f in
      not-true (tests.ends (numbers_of format) w) (is_true (not (tests.ends (numbers_of format) w)) some)

  -- and 6 only where the second does
  pub only_6 : read_with tests asked w out ≡ outcome (Err NotDivisible) out → tests.divided (numbers_of (format_of w)) w ≡ false
  unfolding table_with read_table rises_above
  only_6 e =
      let format = format_of w in
      let (size, f) = later_row refusal_number tt (refused_first (table_with tests asked format (length out) w) NotDivisible (verdict_with NotDivisible e)) in
      let (bits, f) = later_row refusal_number tt f in
      let (roomy, f) = later_row refusal_number tt f in
      let (ends, f) = later_row refusal_number tt f in
      let (is, some) = this_row refusal_number (later_rise asked format (length out) w) f in
      not-true (tests.divided (numbers_of format) w) (is_true (not (tests.divided (numbers_of format) w)) some)

-- where a test holds its refusal is not given
module _ (tests : Tests) (asked : Asked) (format : Format) (w out : List ℕ) (size : length w ≡ window_bits (numbers_of format)) where
  pub never_5 : tests.ends (numbers_of format) w ≡ true → read_with tests asked w out ≡ outcome (Err EndsDiffer) out → ⊥
  never_5 e a =
      let f = only_5 tests asked w out a in
      fails (tests.ends (numbers_of format) w) (rw (format_of_lem format w size) at f) (holds (tests.ends (numbers_of format) w) e)

  pub never_6 : tests.divided (numbers_of format) w ≡ true → read_with tests asked w out ≡ outcome (Err NotDivisible) out → ⊥
  never_6 d a =
      let f = only_6 tests asked w out a in
      fails (tests.divided (numbers_of format) w) (rw (format_of_lem format w size) at f) (holds (tests.divided (numbers_of format) w) d)

  pub neither : tests.ends (numbers_of format) w ≡ true → tests.divided (numbers_of format) w ≡ true
      → (read_with tests asked w out ≡ outcome (Err EndsDiffer) out → ⊥) × (read_with tests asked w out ≡ outcome (Err NotDivisible) out → ⊥)
  neither e d = (never_5 e, never_6 d)
