-- The verdict of a window goes by its ring and not by the turn: what one window is cut from, the other is cut from too, further on.
-- Assumes nothing.
use mathlib.Core.Path.{◌≡◌, sym, ap, ◌∙◌}
use mathlib.Core.Bool.{Bool}
use mathlib.Core.List.{List}
use Prim.Native.Nat.{ℕ, ◌+◌, ◌-◌, ◌%◌, ◌≤◌, ◌<◌}
use native.Mathlib.Nat.{mod-lt}
use native.Mathlib.Omega.{arith}
use lib.Dec.{T}
use lib.ListN.{length, take}
use lib.Seq.{length-take-le}
use Rattle.bits.specs.Bits.{around}
use Rattle.bits.proofs.Tests.{is_true, tests_agree}
use Rattle.formats.specs.declared.format.Format.{Format}
use Rattle.formats.specs.Numbers.{numbers_of, window_bits}
use Rattle.formats.proofs.Sizes.{sizes_of}
use Rattle.refusals.specs.Outcome.{outcome, Outcome}
use Rattle.cyclic.specs.Check.{turned}
use Rattle.cyclic.proofs.Laws.{turned_back_lem}
use Rattle.telegrams.proofs.WellFormed.{parts}
use Rattle.reader.specs.declared.Asked.{Asked}
use Rattle.reader.specs.Windows.{oriented}
use Rattle.reader.specs.Reads.{ends_agree, reads_as, read_by, reading_in}
use Rattle.reader.specs.CutFrom.{CutFrom}
use Rattle.reader.specs.ByRing.{TurnedWindow, IsRead, GoesByRing}
use Rattle.reader.proofs.Ends.{ends_repeat}
use Rattle.reader.proofs.Windows.{length-oriented, cut-oriented, turned-window}
use Rattle.reader.proofs.AsAsked.{asked_tested}
use Rattle.reader.proofs.CutReads.{cut-tells}
use Rattle.reader.proofs.ReadsCut.{reads_cut}
use Rattle.reader.proofs.Exact.{reads_exactly}
use Rattle.std.specs.Prelude.{Result, Ok}
use Rattle.reader.specs.declared.Reading.{Reading}
use Rattle.refusals.specs.declared.Refusal.{Refusal}

-- turned on to the end of the round, v is w again
turned_on : (format : Format) (w v : List ℕ) (s : ℕ) → TurnedWindow format w v s → TurnedWindow format v w ((numbers_of format).n - s)
turned_on format w v s h =
    let n = (numbers_of format).n in
    let first = take n w in
    let round : (n - s) + s ≡ length first = omega (arith, h.within, length-take-le n w (omega (arith, h.size))) in
    record {
      size = h.turned_size;
      turned_size = h.size;
      ends = h.turned_ends;
      turned_ends = h.ends;
      within = omega arith;
      turn = sym (ap (turned (n - s)) h.turn ∙ turned_back_lem (n - s) s first round);
    }

module _ (asked : Asked) (format : Format) (w v : List ℕ) (s : ℕ) (h : TurnedWindow format w v s) where
  -- cut from a telegram at the turn t means the other is cut from it at t + s
  pub cut-turned : (B esb t : ℕ) (flipped : Bool) (u : List ℕ) → CutFrom asked format w B esb t flipped u
      → CutFrom asked format v B esb ((t + s) % (numbers_of format).n) flipped u
  cut-turned B esb t flipped u c =
      let F = numbers_of format in
      let b = c.telegram in
      let x = oriented flipped b in
      let k = window_bits F in
      let (formed, passes) = (asked_tested asked format b).0 c.as_asked in
      let size : length b ≡ F.n = (parts F b formed).size in
      let some : 0 < F.n = omega (arith, c.turn) in
      let full : 0 < length b = omega arith in
      let ring : w ≡ around k t x = c.window ∙ cut-oriented k t flipped b full in
      record {
        telegram = b;
        as_asked = c.as_asked;
        scrambling = c.scrambling;
        shaping = c.shaping;
        user_bits = c.user_bits;
        turn = mod-lt (t + s) some;
        window =
            turned-window F.n F.r t s x v some (length-oriented flipped b ∙ size) (sizes_of format).r_within h.within
            (ends_repeat F v (is_true (ends_agree F v) h.turned_ends)) (h.turn ∙ ap (λ (l : List ℕ). turned s (take F.n l)) ring)
            ∙ sym (cut-oriented k ((t + s) % F.n) flipped b full);
      }

  reads_turned : T (reads_as asked format w) → T (reads_as asked format v)
  reads_turned r =
      let told = reading_in format w in
      let c = reads_cut asked format w r in
      (cut-tells asked format v told.scrambling told.shaping ((told.turn + s) % (numbers_of format).n) told.flipped _
      (cut-turned told.scrambling told.shaping told.turn told.flipped _ c)).accepted

-- one is accepted exactly when the other is
pub by_ring : (asked : Asked) (format : Format) (w v : List ℕ) (s : ℕ) → TurnedWindow format w v s → reads_as asked format w ≡ reads_as asked format v
by_ring asked format w v s h =
    tests_agree (reads_as asked format w) (reads_as asked format v) (reads_turned asked format w v s h)
    (reads_turned asked format v w ((numbers_of format).n - s) (turned_on format w v s h))

-- with some output left, it is read
is_read : (asked : Asked) (w out : List ℕ) → ((reading : Reading) × (o : List ℕ) × (read_by asked w out ≡ outcome (Ok reading) o)) → IsRead asked w out
is_read asked w out (reading, o, e) = (reading, ap (λ (y : Outcome (Result Reading Refusal)). y.answer) e)

module _ (asked : Asked) (format : Format) (w v : List ℕ) (s : ℕ) (out other : List ℕ) where
  -- what is read is cut from a telegram, so the other is read too
  read_turned : TurnedWindow format w v s → (numbers_of format).m ≤ length out → (numbers_of format).m ≤ length other → IsRead asked w out → IsRead asked v other
  read_turned h room room' (reading, e) =
      let one = reads_exactly asked format w out (record { size = h.size; room = room }) in
      let two = reads_exactly asked format v other (record { size = h.turned_size; room = room' }) in
      let o = (read_by asked w out).output in
      let (B, esb, t, flipped, u, c) = one.accepts.0 (reading, o, ap (λ (a : Result Reading Refusal). outcome a o) e) in
      is_read asked v other
      (two.accepts.1 (B, esb, (t + s) % (numbers_of format).n, flipped, u, cut-turned asked format w v s h B esb t flipped u c))

-- the verdict of read, and of read_well_formed
pub goes_by_ring : (asked : Asked) (format : Format) (w v : List ℕ) (s : ℕ) (out other : List ℕ) → TurnedWindow format w v s
    → (numbers_of format).m ≤ length out → (numbers_of format).m ≤ length other → GoesByRing asked format w v s out other
goes_by_ring asked format w v s out other h room room' =
    record {
      accepts = (
        read_turned asked format w v s out other h room room',
        read_turned asked format v w ((numbers_of format).n - s) other out (turned_on format w v s h) room' room,
      );
      gives =
          λ B esb t flipped u e.
          let one = reads_exactly asked format w out (record { size = h.size; room = room }) in
          let two = reads_exactly asked format v other (record { size = h.turned_size; room = room' }) in
          (two.gives B esb ((t + s) % (numbers_of format).n) flipped u).1
          (cut-turned asked format w v s h B esb t flipped u ((one.gives B esb t flipped u).0 e));
    }
