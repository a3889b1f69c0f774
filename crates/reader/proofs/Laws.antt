-- What reading answers, for the crates that call it: none has to open its definition. Assumes nothing.
use Prim.Native.Nat.{ℕ, ◌≤◌, ◌<◌}
use mathlib.Core.Path.{◌≡◌, refl, sym, ap, subst, ◌∙◌}
use mathlib.Core.Bool.{true, false}
use mathlib.Core.List.{List, ◌++◌}
use mathlib.Core.Logic.{◌⊎◌, inl, inr}
use lib.Dec.{T}
use lib.ListN.{length, drop}
use Rattle.bits.specs.Bits.{all_bits}
use Rattle.bits.proofs.Tests.{clash, holds, fails, is_false}
use Rattle.formats.specs.declared.format.Format.{Format}
use Rattle.formats.specs.Numbers.{numbers_of, window_bits}
use Rattle.refusals.specs.declared.Refusal.{Refusal}
use Rattle.refusals.specs.Table.{Verdict, refused, accepted, verdict}
use Rattle.refusals.specs.Outcome.{Outcome, outcome}
use Rattle.refusals.proofs.Table.{answer_by_lem}
use Rattle.telegrams.proofs.WellFormed.{scrambling_below, shaping_below}
use Rattle.reader.specs.declared.Asked.{Asked}
use Rattle.reader.specs.declared.Reading.{Reading}
use Rattle.reader.specs.Reads.{format_of, ends_agree, turn_in, telegram_in, read_table, reading_of, reading_in, user_bits_in, read_out, read_as, read_by, reads_as}
use Rattle.reader.proofs.Steps.{decided, any_window, read_as_lem}
use Rattle.reader.proofs.Accepted.{accepted_passed, passed_accepted, with_room_lem, reads_passed}
use Rattle.reader.proofs.Turns.{turn-leaves}
use Rattle.reader.proofs.Parts.Found.{bits_found}
use Rattle.std.specs.Prelude.{Result, Ok, Err}

-- ---- windows that are accepted as a format's

module _ (asked : Asked) (format : Format) (w : List ℕ) where
  pub reads_size : T (reads_as asked format w) → length w ≡ window_bits (numbers_of format)
  reads_size h = ((reads_passed asked format w).0 h).size

  pub reads_bits : T (reads_as asked format w) → T (all_bits w)
  reads_bits h = holds (all_bits w) ((reads_passed asked format w).0 h).bits

  pub reads_ends : T (reads_as asked format w) → ends_agree (numbers_of format) w ≡ true
  reads_ends h = ((reads_passed asked format w).0 h).ends

  -- ends that differ are never accepted
  pub ends_unread : ends_agree (numbers_of format) w ≡ false → reads_as asked format w ≡ false
  ends_unread e =
      let F = numbers_of format in
      is_false (reads_as asked format w) (λ h. fails (ends_agree F w) e (holds (ends_agree F w) (reads_ends h)))

  -- the numbers of what is read fit their fields
  reads_below : T (reads_as asked format w)
      → ((reading_in format w).scrambling < 4096) × ((reading_in format w).shaping < 1024) × ((reading_in format w).turn < (numbers_of format).n)
  unfolding reading_in reading_of
  reads_below h =
      let F = numbers_of format in
      let b = telegram_in F (turn_in F w) w in
      let bits = bits_found F (turn_in F w) w (reads_bits h) in
      (scrambling_below F b bits, shaping_below F b bits, (turn-leaves F w ((reads_passed asked format w).0 h).turn).0)

pub reading_format : (format : Format) (w : List ℕ) → (reading_in format w).format ≡ format
unfolding reading_in reading_of
reading_format format w = refl

-- ---- what is answered for a window that is to be a format's

-- the parts of an outcome, and of outcomes that are the same
abbrev answer_of : Outcome (Result Reading Refusal) → Result Reading Refusal
answer_of x = x.answer

abbrev output_of : Outcome (Result Reading Refusal) → List ℕ
output_of x = x.output

parts : {a b : Result Reading Refusal} {o p : List ℕ} → outcome a o ≡ outcome b p → (a ≡ b) × (o ≡ p)
parts e = (ap answer_of e, ap output_of e)

-- a refusal is no reading
refused_read_lem : {A : Type 0} {r : Refusal} {reading : Reading} {o p : List ℕ} → outcome (Err r) o ≡ outcome (Ok reading) p → A
refused_read_lem e = let answers = (parts e).0 in clash cc

pub read_one : {x y : Reading} → ◌≡◌ {A = Result Reading Refusal} (Ok x) (Ok y) → x ≡ y
read_one e = cc

module _ (asked : Asked) (format : Format) (w out : List ℕ) where
  -- it is refused, or accepted with room
  abbrev Err⊎Ok : Type 0
  Err⊎Ok =
      ((r : Refusal) × (read_as asked format w out ≡ outcome (Err r) out))
      ⊎ (T (reads_as asked format w) × ((numbers_of format).m ≤ length out) × (read_as asked format w out ≡ read_out format w out))

  read_or_refused : Err⊎Ok
  read_or_refused = go (verdict (read_table asked format (length out) w)) refl
    where
      go : (v : Verdict Refusal) → verdict (read_table asked format (length out) w) ≡ v → Err⊎Ok
      go (refused r) e = inl (r, decided asked format w out (refused r) e)
      go accepted e =
          let p = accepted_passed asked format (length out) w e in
          inr ((reads_passed asked format w).1 p.1, p.0, decided asked format w out accepted e)

  -- accepted where it is read, with room
  pub reads_out : T (reads_as asked format w) → (numbers_of format).m ≤ length out → read_as asked format w out ≡ read_out format w out
  reads_out h room = decided asked format w out accepted (passed_accepted asked format (length out) w room ((reads_passed asked format w).0 h))

  pub reads_as_lem : T (reads_as asked format w) → (numbers_of format).m ≤ length out → read_by asked w out ≡ read_out format w out
  reads_as_lem h room = read_as_lem asked format w out (reads_size asked format w h) ∙ reads_out h room

  -- what an answer tells
  pub answered_read : (reading : Reading) (o : List ℕ) → read_as asked format w out ≡ outcome (Ok reading) o
      → T (reads_as asked format w) × ((numbers_of format).m ≤ length out) × (reading ≡ reading_in format w)
      × (o ≡ user_bits_in format w ++ drop (numbers_of format).m out)
  answered_read reading o e = go read_or_refused
    where
      go : Err⊎Ok → T (reads_as asked format w) × ((numbers_of format).m ≤ length out) × (reading ≡ reading_in format w)
          × (o ≡ user_bits_in format w ++ drop (numbers_of format).m out)
      go (inl (r, f)) = refused_read_lem (sym f ∙ e)
      go (inr (h, room, f)) = let both = parts (sym e ∙ f) in (h, room, read_one both.0, both.1)

  pub answered_refused : (r : Refusal) (o : List ℕ) → read_as asked format w out ≡ outcome (Err r) o
      → (o ≡ out) × ((numbers_of format).m ≤ length out → reads_as asked format w ≡ false)
  answered_refused r o e = go read_or_refused
    where
      go : Err⊎Ok → (o ≡ out) × ((numbers_of format).m ≤ length out → reads_as asked format w ≡ false)
      go (inl (q, f)) = ((parts (sym e ∙ f)).1, λ room. is_false (reads_as asked format w) (λ h. refused_read_lem (sym e ∙ reads_out h room)))
      go (inr (h, room, f)) = refused_read_lem (sym e ∙ f)

-- every output with room gives the same answer
pub answer_as : (asked : Asked) (format : Format) (w out out' : List ℕ) → (numbers_of format).m ≤ length out → (numbers_of format).m ≤ length out'
    → (read_as asked format w out).answer ≡ (read_as asked format w out').answer
answer_as asked format w out out' room room' =
    let v = verdict (read_table asked format (numbers_of format).m w) in
    ap answer_of (decided asked format w out v (with_room_lem asked format w (length out) room))
    ∙ answer_by_lem Err out (read_out format w out) v
    ∙ sym (ap answer_of (decided asked format w out' v (with_room_lem asked format w (length out') room')) ∙ answer_by_lem Err out' (read_out format w out') v)

-- ---- what is answered for any window

pub answer_room : (asked : Asked) (w out out' : List ℕ) → (numbers_of (format_of w)).m ≤ length out → (numbers_of (format_of w)).m ≤ length out'
    → (read_by asked w out).answer ≡ (read_by asked w out').answer
answer_room asked w out out' room room' =
    ap answer_of (any_window asked w out) ∙ answer_as asked (format_of w) w out out' room room' ∙ sym (ap answer_of (any_window asked w out'))

-- what is read
pub record ReadAccepted (asked : Asked) (w out : List ℕ) (reading : Reading) : Type 0 where
  pub size : length w ≡ window_bits (numbers_of reading.format)
  pub bits : T (all_bits w)
  pub room : (numbers_of reading.format).m ≤ length out
  pub accepted : T (reads_as asked reading.format w)
  pub reads : reading ≡ reading_in reading.format w
  pub writes : (read_by asked w out).output ≡ user_bits_in reading.format w ++ drop (numbers_of reading.format).m out
  pub scrambling : reading.scrambling < 4096
  pub shaping : reading.shaping < 1024
  pub turn : reading.turn < (numbers_of reading.format).n

pub read_accepted : (asked : Asked) (w out : List ℕ) (reading : Reading) → (read_by asked w out).answer ≡ Ok reading → ReadAccepted asked w out reading
unfolding reading_in reading_of
read_accepted asked w out reading e =
    let format = format_of w in
    let o = (read_by asked w out).output in
    let (h, room, reads, writes) =
    answered_read asked format w out reading o (sym (any_window asked w out) ∙ ap (λ (a : Result Reading Refusal). outcome a o) e) in
    let below = reads_below asked format w h in
    subst (ReadAccepted asked w out) (sym reads)
    (record {
      size = reads_size asked format w h;
      bits = reads_bits asked format w h;
      room = room;
      accepted = h;
      reads = refl;
      writes = writes;
      scrambling = below.0;
      shaping = below.1;
      turn = below.2;
    })
