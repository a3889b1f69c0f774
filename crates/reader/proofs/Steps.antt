-- What reading a window answers, by the verdict of its table, and row by row: refused where the rows before do not apply and this one does,
-- and what is left where none applies. Assumes nothing.
use mathlib.Core.Path.{◌≡◌, refl, ap, ◌∙◌}
use mathlib.Core.Bool.{Bool, true, false}
use mathlib.Core.List.{List, ◌++◌}
use Prim.Native.Nat.{ℕ, ◌≤◌, ◌<◌}
use native.Mathlib.Omega.{arith}
use borrow.Author.Tests.{le-leb, lt-leb, eq-eqb, ne_eqb}
use lib.Dec.{T}
use lib.ListN.{length, take, drop}
use Rattle.bits.specs.Bits.{all_bits, same}
use Rattle.formats.specs.declared.format.Format.{Format}
use Rattle.formats.specs.Numbers.{numbers_of, window_bits}
use Rattle.formats.proofs.Fits.{picks, windows_apart}
use Rattle.refusals.specs.declared.Refusal.{Refusal}
use Rattle.refusals.specs.declared.Refusal.TheVariants.{Length, NotBit, OutputShort, EndsDiffer, NotDivisible, NoTurn, Control, NotWord}
use Rattle.refusals.specs.Refused.{refusal_number}
use Rattle.refusals.specs.Table.{Verdict, verdict, outcome_by, rises_above}
use Rattle.refusals.specs.Outcome.{outcome}
use Rattle.cyclic.specs.Check.{divisible}
use Rattle.telegrams.specs.Telegram.{control}
use Rattle.telegrams.specs.Fields.{control_of, all_words, user_bits_of}
use Rattle.telegrams.specs.Worded.{bad_word}
use Rattle.conditions.proofs.FirstFailing.{first_refused, none_accepted, conditions_rise}
use Rattle.reader.specs.declared.Asked.{Asked}
use Rattle.reader.specs.declared.Asked.TheVariants.{WellFormed, Proper}
use Rattle.reader.specs.Reads.{format_of, ends_agree, turn_found, turn_in, telegram_in, telegram_table, asked_table, read_table, reading_of, reading_in, user_bits_in, read_out, read_as, read_by}
use Rattle.reader.specs.AtTurn.{asked_failing, read_telegram, read_at_turn}
use Rattle.std.specs.Prelude.{Some, None, Ok, Err}

-- ---- by the verdict

-- a window that is to be the format's
pub decided : (asked : Asked) (format : Format) (w out : List ℕ) (v : Verdict Refusal) → verdict (read_table asked format (length out) w) ≡ v
    → read_as asked format w out ≡ outcome_by Err out (read_out format w out) v
unfolding read_as
decided asked format w out v e = ap (outcome_by Err out (read_out format w out)) e

-- any window is to be that of the format that its length picks
pub any_window : (asked : Asked) (w out : List ℕ) → read_by asked w out ≡ read_as asked (format_of w) w out
unfolding read_by
any_window asked w out = refl

-- the numbers of the rows rise
pub rises : (asked : Asked) (format : Format) (room : ℕ) (w : List ℕ) → T (rises_above refusal_number 0 (read_table asked format room w))
unfolding read_table telegram_table rises_above
rises WellFormed format room w = tt
rises Proper format room w = conditions_rise format (telegram_in (numbers_of format) (turn_in (numbers_of format) w) w) 9 (omega arith)

-- the format that the length of a format's window picks
pub format_of_lem : (format : Format) (w : List ℕ) → length w ≡ window_bits (numbers_of format) → format_of w ≡ format
format_of_lem format w size = picks window_bits windows_apart format (length w) size

-- such a window is read as that format's
pub read_as_lem : (asked : Asked) (format : Format) (w out : List ℕ) → length w ≡ window_bits (numbers_of format)
    → read_by asked w out ≡ read_as asked format w out
read_as_lem asked format w out size = any_window asked w out ∙ ap (λ (f : Format). read_as asked f w out) (format_of_lem format w size)

-- ---- row by row

-- 1: it has another length
pub length_refused : (asked : Asked) (format : Format) (w out : List ℕ) → (length w ≡ window_bits (numbers_of format) → ⊥)
    → read_as asked format w out ≡ outcome (Err Length) out
unfolding read_as read_table verdict
length_refused asked format w out e = rw (ne_eqb (length w) (window_bits (numbers_of format)) e)

module _ (asked : Asked) (format : Format) (w out : List ℕ) (size : length w ≡ window_bits (numbers_of format)) where
  -- 2: a byte is not a bit
  pub bits_refused : all_bits w ≡ false → read_as asked format w out ≡ outcome (Err NotBit) out
  unfolding read_as read_table verdict
  bits_refused bits = rw (eq-eqb (length w) (window_bits (numbers_of format)) size, bits)

  -- 3: the output is too short
  pub room_refused : all_bits w ≡ true → length out < (numbers_of format).m → read_as asked format w out ≡ outcome (Err OutputShort) out
  unfolding read_as read_table verdict
  room_refused bits less =
      rw (eq-eqb (length w) (window_bits (numbers_of format)) size, bits, lt-leb (numbers_of format).m (length out) less)

  module _ (bits : all_bits w ≡ true) (room : (numbers_of format).m ≤ length out) where
    -- 5: the ends differ
    pub ends_refused : ends_agree (numbers_of format) w ≡ false → read_as asked format w out ≡ outcome (Err EndsDiffer) out
    unfolding read_as read_table verdict
    ends_refused ends =
        rw (eq-eqb (length w) (window_bits (numbers_of format)) size, bits, le-leb (numbers_of format).m (length out) room, ends)

    module _ (ends : ends_agree (numbers_of format) w ≡ true) where
      -- 6: g does not divide the first n bits
      pub divisible_refused : divisible (numbers_of format) (take (numbers_of format).n w) ≡ false
          → read_as asked format w out ≡ outcome (Err NotDivisible) out
      unfolding read_as read_table verdict
      divisible_refused divided =
          rw (eq-eqb (length w) (window_bits (numbers_of format)) size, bits, le-leb (numbers_of format).m (length out) room, ends, divided)

      module _ (divided : divisible (numbers_of format) (take (numbers_of format).n w) ≡ true) where
        -- 7: there is no turn
        pub turn_refused : turn_found (numbers_of format) w ≡ None → read_as asked format w out ≡ outcome (Err NoTurn) out
        unfolding read_as read_table verdict
        turn_refused turn =
            rw (eq-eqb (length w) (window_bits (numbers_of format)) size, bits, le-leb (numbers_of format).m (length out) room, ends, divided, turn)

        -- there is one: the telegram there decides
        pub turn_found_lem : (t : ℕ) → turn_found (numbers_of format) w ≡ Some t → read_as asked format w out ≡ read_at_turn asked format t w out
        unfolding read_as read_table verdict read_at_turn read_telegram reading_in user_bits_in turn_in
        turn_found_lem t turn =
            rw (eq-eqb (length w) (window_bits (numbers_of format)) size, bits, le-leb (numbers_of format).m (length out) room, ends, divided, turn)

-- the telegram b, found at the turn t
module _ (asked : Asked) (format : Format) (t : ℕ) (flipped : Bool) (b out : List ℕ) where
  -- 8: control bits other than 0, 0, 1
  pub control_refused : same (control_of (numbers_of format) b) control ≡ false → read_telegram asked format t flipped b out ≡ outcome (Err Control) out
  unfolding read_telegram telegram_table verdict
  control_refused controlled = rw controlled

  -- 9: a word that is not in the table
  pub word_refused : same (control_of (numbers_of format) b) control ≡ true → all_words (numbers_of format).words b ≡ false
      → read_telegram asked format t flipped b out ≡ outcome (Err (NotWord (bad_word (numbers_of format).words b))) out
  unfolding read_telegram telegram_table verdict
  word_refused controlled worded = rw (controlled, worded)

  -- 10, 11 or 12: a condition that is asked for fails
  pub condition_refused : same (control_of (numbers_of format) b) control ≡ true → all_words (numbers_of format).words b ≡ true
      → (r : Refusal) → asked_failing asked format b ≡ Err r → read_telegram asked format t flipped b out ≡ outcome (Err r) out
  unfolding read_telegram telegram_table verdict asked_failing
  condition_refused controlled worded r failing = rw (controlled, worded, first_refused (verdict (asked_table asked format b)) r failing)

  -- none applies
  pub telegram_read : same (control_of (numbers_of format) b) control ≡ true → all_words (numbers_of format).words b ≡ true
      → asked_failing asked format b ≡ Ok (tt {0})
      → read_telegram asked format t flipped b out
      ≡ outcome (Ok (reading_of format t flipped b)) (user_bits_of (numbers_of format) b ++ drop (numbers_of format).m out)
  unfolding read_telegram telegram_table verdict asked_failing
  telegram_read controlled worded failing = rw (controlled, worded, none_accepted (verdict (asked_table asked format b)) failing)
