-- What a window that is accepted has passed: every row of the table, whatever output with room is lent. Assumes nothing.
use Prim.Native.Nat.{ℕ, ◌≤◌}
use mathlib.Core.Path.{◌≡◌}
use mathlib.Core.Bool.{true}
use mathlib.Core.List.{List}
use mathlib.Core.Logic.{◌↔◌}
use native.Mathlib.Nat.{le_refl}
use borrow.Author.Tests.{le-leb, leb-true, eq-eqb, eqb-true, not-false}
use lib.Dec.{T, eqb, leb}
use lib.ListN.{length, take}
use Rattle.bits.specs.Bits.{all_bits, same}
use Rattle.formats.specs.declared.format.Format.{Format}
use Rattle.formats.specs.Numbers.{numbers_of, window_bits}
use Rattle.refusals.specs.Table.{accepted, verdict}
use Rattle.refusals.proofs.Table.{accepts_only, NoRow, accepted_no_row, no_row_accepted}
use Rattle.cyclic.specs.Check.{divisible}
use Rattle.telegrams.specs.Telegram.{control}
use Rattle.telegrams.specs.Fields.{control_of, all_words}
use Rattle.reader.specs.declared.Asked.{Asked}
use Rattle.reader.specs.Reads.{ends_agree, turn_found, is_turn, turn_in, telegram_in, asked_table, telegram_table, read_table, reads_as}

-- a window of the format has passed every test
pub record Passed (asked : Asked) (format : Format) (w : List ℕ) : Type 0 where
  pub size : length w ≡ window_bits (numbers_of format)
  pub bits : all_bits w ≡ true
  pub ends : ends_agree (numbers_of format) w ≡ true
  pub divided : divisible (numbers_of format) (take (numbers_of format).n w) ≡ true
  pub turn : is_turn (turn_found (numbers_of format) w) ≡ true
  pub controlled : same (control_of (numbers_of format) (telegram_in (numbers_of format) (turn_in (numbers_of format) w) w)) control ≡ true
  pub worded : all_words (numbers_of format).words (telegram_in (numbers_of format) (turn_in (numbers_of format) w) w) ≡ true
  pub as_asked : verdict (asked_table asked format (telegram_in (numbers_of format) (turn_in (numbers_of format) w) w)) ≡ accepted

-- a window of the format has passed the tests up to the control bits
pub record Placed (format : Format) (w : List ℕ) : Type 0 where
  pub size : length w ≡ window_bits (numbers_of format)
  pub bits : all_bits w ≡ true
  pub ends : ends_agree (numbers_of format) w ≡ true
  pub divided : divisible (numbers_of format) (take (numbers_of format).n w) ≡ true
  pub turn : is_turn (turn_found (numbers_of format) w) ≡ true
  pub controlled : same (control_of (numbers_of format) (telegram_in (numbers_of format) (turn_in (numbers_of format) w) w)) control ≡ true

pub placed : (asked : Asked) (format : Format) (w : List ℕ) → Passed asked format w → Placed format w
placed asked format w p =
    record { size = p.size; bits = p.bits; ends = p.ends; divided = p.divided; turn = p.turn; controlled = p.controlled }

module _ (asked : Asked) (format : Format) (room : ℕ) (w : List ℕ) where
  -- where no refusal applies there is room, and every test is passed
  pub accepted_passed : verdict (read_table asked format room w) ≡ accepted → ((numbers_of format).m ≤ room) × Passed asked format w
  unfolding read_table telegram_table NoRow
  accepted_passed e =
      let F = numbers_of format in
      let b = telegram_in F (turn_in F w) w in
      let (size, (bits, (roomy, (ends, (divided, (turn, (controlled, (worded, end)))))))) = accepted_no_row (read_table asked format room w) e in (
        leb-true F.m room (not-false (leb F.m room) roomy),
        record {
          size = eqb-true (length w) (window_bits F) (not-false (eqb (length w) (window_bits F)) size);
          bits = not-false (all_bits w) bits;
          ends = not-false (ends_agree F w) ends;
          divided = not-false (divisible F (take F.n w)) divided;
          turn = not-false (is_turn (turn_found F w)) turn;
          controlled = not-false (same (control_of F b) control) controlled;
          worded = not-false (all_words F.words b) worded;
          as_asked = no_row_accepted (asked_table asked format b) end;
        },
      )

  -- and the other way
  pub passed_accepted : (numbers_of format).m ≤ room → Passed asked format w → verdict (read_table asked format room w) ≡ accepted
  unfolding read_table telegram_table verdict
  passed_accepted h p =
      let F = numbers_of format in
      rw (eq-eqb (length w) (window_bits F) p.size, p.bits, le-leb F.m room h, p.ends, p.divided, p.turn, p.controlled, p.worded, p.as_asked)

-- all room is alike
pub with_room_lem : (asked : Asked) (format : Format) (w : List ℕ) (room : ℕ) → (numbers_of format).m ≤ room
    → verdict (read_table asked format room w) ≡ verdict (read_table asked format (numbers_of format).m w)
unfolding read_table verdict
with_room_lem asked format w room h = rw (le-leb (numbers_of format).m room h, le-leb (numbers_of format).m (numbers_of format).m (le_refl (numbers_of format).m))

-- with room, a window is accepted exactly where it has passed every test
pub reads_passed : (asked : Asked) (format : Format) (w : List ℕ) → T (reads_as asked format w) ↔ Passed asked format w
unfolding reads_as
reads_passed asked format w = (
  λ h. (accepted_passed asked format (numbers_of format).m w (accepts_only (verdict (read_table asked format (numbers_of format).m w)) h)).1,
  λ p. rw (passed_accepted asked format (numbers_of format).m w (le_refl (numbers_of format).m) p) tt,
)
