-- Reading means what it is to mean: it refuses by its table, accepts exactly the windows that are cut from a telegram that is as asked, and
-- gives what that telegram carries; and read answers as read_well_formed does, or with the first condition that fails. Assumes nothing.
use mathlib.Core.Path.{◌≡◌, refl, sym, ap, ap₂, ◌∙◌}
use mathlib.Core.Bool.{Bool}
use mathlib.Core.List.{List, ◌++◌}
use Prim.Native.Nat.{ℕ, ◌≤◌}
use lib.ListN.{length, drop}
use Rattle.bits.proofs.Tests.{clash}
use Rattle.formats.specs.declared.format.Format.{Format}
use Rattle.formats.specs.Numbers.{numbers_of, window_bits}
use Rattle.formats.proofs.Sizes.{sizes_of}
use Rattle.refusals.specs.declared.Refusal.{Refusal}
use Rattle.refusals.specs.Refused.{refusal_number}
use Rattle.refusals.specs.Table.{Verdict, refused, accepted, verdict}
use Rattle.refusals.specs.Outcome.{Outcome, outcome, FrontWritten}
use Rattle.refusals.proofs.Table.{answer_by_lem, answer_said, refuses_by}
use Rattle.refusals.proofs.Fronts.{front-written, fronts_same}
use Rattle.telegrams.proofs.Made.{length-user_bits}
use Rattle.reader.specs.declared.Asked.{Asked}
use Rattle.reader.specs.declared.Reading.{Reading}
use Rattle.reader.specs.Reads.{format_of, turn_in, telegram_in, read_table, user_bits_in, read_out, read_by}
use Rattle.reader.specs.CutFrom.{CutFrom}
use Rattle.reader.specs.ReadsExactly.{gave_block, ReadAnswers, LentWindow, ReadsExactly}
use Rattle.reader.proofs.Steps.{decided, any_window, read_as_lem, rises}
use Rattle.reader.proofs.Laws.{reads_as_lem, answered_read, answered_refused, read_accepted}
use Rattle.reader.proofs.CutReads.{cut-tells}
use Rattle.reader.proofs.ReadsCut.{reads_cut}
use Rattle.std.specs.Prelude.{Result, Ok, Err}

-- ---- refused by the table

-- what an answer says
abbrev pub said : Result Reading Refusal → Verdict Refusal
said (Err r) = refused r
said (Ok reading) = accepted

refusal_said : (a : Result Reading Refusal) (r : Refusal) → said a ≡ refused r → a ≡ Err r
refusal_said (Err q) r e = cc
refusal_said (Ok reading) r e = clash cc

-- is the table's verdict
pub verdict-said : (asked : Asked) (w out : List ℕ) → said (read_by asked w out).answer ≡ verdict (read_table asked (format_of w) (length out) w)
verdict-said asked w out =
    let v = verdict (read_table asked (format_of w) (length out) w) in
    ap (λ (x : Outcome (Result Reading Refusal)). said x.answer) (any_window asked w out ∙ decided asked (format_of w) w out v refl)
    ∙ ap said (answer_by_lem Err out (read_out (format_of w) w out) v)
    ∙ answer_said Err said (λ r. refl) (read_out (format_of w) w out).answer refl v

-- ---- accepted where it is cut from a telegram

module _ (asked : Asked) (format : Format) (w out : List ℕ) where
  -- cut means accepted
  pub cut_read : (numbers_of format).m ≤ length out → (B esb t : ℕ) (flipped : Bool) (u : List ℕ) → CutFrom asked format w B esb t flipped u
      → read_by asked w out ≡ gave_block format B esb t flipped u out
  cut_read room B esb t flipped u c =
      let k = cut-tells asked format w B esb t flipped u c in
      reads_as_lem asked format w out k.accepted room
      ∙ ap₂ (λ (x : Reading) (l : List ℕ). outcome (Ok x) (l ++ drop (numbers_of format).m out)) k.reading k.user_bits

  module _ (size : length w ≡ window_bits (numbers_of format)) where
    -- accepted means cut
    read_cut : (reading : Reading) (o : List ℕ) → read_by asked w out ≡ outcome (Ok reading) o
        → CutFrom asked format w reading.scrambling reading.shaping reading.turn reading.flipped (user_bits_in format w)
        × (o ≡ user_bits_in format w ++ drop (numbers_of format).m out)
    read_cut reading o e =
        let (h, room, reads, writes) = answered_read asked format w out reading o (sym (read_as_lem asked format w out size) ∙ e) in
        (rw reads (reads_cut asked format w h), writes)

    read_gave : (B esb t : ℕ) (flipped : Bool) (u : List ℕ) → read_by asked w out ≡ gave_block format B esb t flipped u out
        → CutFrom asked format w B esb t flipped u
    read_gave B esb t flipped u e =
        let told : Reading = record { format = format; scrambling = B; shaping = esb; turn = t; flipped = flipped } in
        let (cut, writes) = read_cut told (gave_block format B esb t flipped u out).output e in
        rw (fronts_same u (user_bits_in format w) (drop (numbers_of format).m out) writes) cut

-- ---- what is written

front-over : (asked : Asked) (w out : List ℕ) (reading : Reading) → (read_by asked w out).answer ≡ Ok reading
    → FrontWritten (numbers_of reading.format).m out (read_by asked w out).output
unfolding user_bits_in
front-over asked w out reading e =
    let a = read_accepted asked w out reading e in
    let F = numbers_of reading.format in
    rw a.writes
    (front-written F.m (user_bits_in reading.format w) out
    (length-user_bits F (sizes_of reading.format) (telegram_in F (turn_in F w) w)) a.room)

-- ---- all of it

pub read_answers : (asked : Asked) (w out : List ℕ) → ReadAnswers asked w out
read_answers asked w out =
    record {
      refuses =
          refuses_by Err said (λ r. refl) refusal_said refusal_number (read_table asked (format_of w) (length out) w) (rises asked (format_of w) (length out) w)
          (read_by asked w out).answer (verdict-said asked w out);
      keeps =
          λ r e. (answered_refused asked (format_of w) w out r (read_by asked w out).output
          (sym (any_window asked w out) ∙ ap (λ (a : Result Reading Refusal). outcome a (read_by asked w out).output) e)).0;
      writes = front-over asked w out;
    }

pub reads_exactly : (asked : Asked) (format : Format) (w out : List ℕ) → LentWindow format w out → ReadsExactly asked format w out
reads_exactly asked format w out lent =
    record {
      accepts = (
        λ r. (
          r.0.scrambling,
          r.0.shaping,
          r.0.turn,
          r.0.flipped,
          user_bits_in format w,
          (read_cut asked format w out lent.size r.0 r.1 r.2).0,
        ),
        λ c. (
          record { format = format; scrambling = c.0; shaping = c.1; turn = c.2; flipped = c.3 },
          (gave_block format c.0 c.1 c.2 c.3 c.4 out).output,
          cut_read asked format w out lent.room c.0 c.1 c.2 c.3 c.4 c.5,
        ),
      );
      gives = λ B esb t flipped u. (read_gave asked format w out lent.size B esb t flipped u, cut_read asked format w out lent.room B esb t flipped u);
    }
