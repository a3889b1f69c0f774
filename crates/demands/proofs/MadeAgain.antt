-- What was read is made again, and what was encoded, and what was made reads back (document 02, No. 11). Assumes nothing.
use mathlib.Core.Path.{◌≡◌, refl, sym, ap, subst, ◌∙◌}
use mathlib.Core.Bool.{Bool}
use mathlib.Core.List.{List}
use Prim.Native.Nat.{ℕ, ◌≤◌, ◌<◌}
use native.Mathlib.Omega.{arith}
use lib.Dec.{T}
use lib.ListN.{length, take, drop}
use lib.Seq.{take_at, take-take}
use Rattle.formats.specs.declared.format.Format.{Format}
use Rattle.formats.specs.Numbers.{numbers_of, window_bits}
use Rattle.formats.proofs.Sizes.{sizes_of}
use Rattle.refusals.specs.Outcome.{Outcome, outcome}
use Rattle.telegrams.specs.Telegram.{telegram_of}
use Rattle.telegrams.specs.Fields.{well_formed}
use Rattle.telegrams.proofs.Made.{length-user_bits, bits_user_bits}
use Rattle.telegrams.proofs.WellFormed.{parts}
use Rattle.conditions.proofs.Proper.{proper_parts}
use Rattle.encoder.specs.Encoding.{encode_of, encoded_with}
use Rattle.encoder.proofs.Accepted.{encode_accepted, accepted_front}
use Rattle.maker.specs.Making.{wrote, make_of}
use Rattle.maker.specs.Makes.{InOrder, Carries}
use Rattle.maker.proofs.Exact.{made, makes, makes_exactly}
use Rattle.reader.specs.declared.Asked.{Asked}
use Rattle.reader.specs.declared.Asked.TheVariants.{WellFormed, Proper}
use Rattle.reader.specs.declared.Reading.{Reading}
use Rattle.reader.specs.Windows.{cut}
use Rattle.reader.specs.Reads.{user_bits_in, read_by, read_well_formed_of}
use Rattle.reader.specs.CutFrom.{CutFrom}
use Rattle.reader.specs.ReadsExactly.{gave_block}
use Rattle.reader.proofs.Windows.{cut-front}
use Rattle.reader.proofs.AsAsked.{asked_tested}
use Rattle.reader.proofs.Laws.{read_accepted}
use Rattle.reader.proofs.ReadsCut.{reads_cut}
use Rattle.reader.proofs.Exact.{cut_read}
use Rattle.captures.specs.Captures.{stretch_of, search_read_of, found_with}
use Rattle.captures.proofs.Exact.{searches, search_reads}
use Rattle.demands.specs.MadeAgain.{MadeAgain, MakesAgain}
use Rattle.std.specs.Prelude.{Result, Ok}
use Rattle.captures.specs.declared.Found.{Found}
use Rattle.refusals.specs.declared.Refusal.{Refusal}

-- ---- a telegram that make wrote over the front of lent

-- it stands there
wrote-front : (format : Format) (b lent : List ℕ) (x : Outcome (Result Format Refusal)) → length b ≡ (numbers_of format).n → x ≡ wrote format b lent
    → take (numbers_of format).n x.output ≡ b
wrote-front format b lent x size e =
    let n = (numbers_of format).n in
    ap (λ (y : Outcome (Result Format Refusal)). take n y.output) e ∙ take_at b (drop n lent) n size

-- ---- a window that is cut from a telegram

module _ (asked : Asked) (format : Format) (w : List ℕ) (B esb t : ℕ) (flipped : Bool) (u : List ℕ) (c : CutFrom asked format w B esb t flipped u)
    (scrambling : B < 4096) (shaping : esb < 1024) (lent : List ℕ) (room : (numbers_of format).n ≤ length lent) where
  formed : T (well_formed (numbers_of format) c.telegram)
  formed = ((asked_tested asked format c.telegram).0 c.as_asked).0

  size : length c.telegram ≡ (numbers_of format).n
  size = (parts (numbers_of format) c.telegram formed).size

  -- make writes that telegram
  cut_made : make_of u B esb lent ≡ wrote format c.telegram lent
  cut_made =
      let F = numbers_of format in
      let b = c.telegram in
      let in_order : InOrder format u B esb lent =
      rw (← c.user_bits)
      (record {
        size = length-user_bits F (sizes_of format) b;
        bits = bits_user_bits F b;
        scrambling = scrambling;
        shaping = shaping;
        room = room;
      }) in
      let carries : Carries format b u B esb =
      record { is_well_formed = formed; scrambling = c.scrambling; shaping = c.shaping; user_bits = c.user_bits } in
      ((makes_exactly u B esb lent).gives format b).1 (in_order, carries)

  -- which cut so gives the window's first n bits
  cut_again : cut (numbers_of format).n t flipped (take (numbers_of format).n (make_of u B esb lent).output) ≡ take (numbers_of format).n w
  cut_again =
      let F = numbers_of format in
      let some : 0 < length c.telegram = omega (arith, size, c.turn) in
      ap (cut F.n t flipped) (wrote-front format c.telegram lent (make_of u B esb lent) size cut_made)
      ∙ sym (ap (take F.n) c.window ∙ cut-front F.n F.r t flipped c.telegram some)

-- ---- what was read

window_again : (asked : Asked) (w out : List ℕ) (reading : Reading) (o : List ℕ) → read_by asked w out ≡ outcome (Ok reading) o
    → (lent : List ℕ) → (numbers_of reading.format).n ≤ length lent → MadeAgain reading o lent w
unfolding user_bits_in
window_again asked w out reading o e lent room =
    let format = reading.format in
    let F = numbers_of format in
    let a = read_accepted asked w out reading (ap (λ (x : Outcome (Result Reading Refusal)). x.answer) e) in
    let u = user_bits_in format w in
    let c =
    subst (λ (r : Reading). CutFrom asked format w r.scrambling r.shaping r.turn r.flipped u) (sym a.reads)
    (reads_cut asked format w a.accepted) in
    let front : take F.m o ≡ u =
    ap (λ (x : Outcome (Result Reading Refusal)). take F.m x.output) (sym e) ∙ ap (take F.m) a.writes
    ∙ take_at u (drop F.m out) F.m (length-user_bits F (sizes_of format) _) in
    let B = reading.scrambling in
    let esb = reading.shaping in
    record {
      answers =
          ap (λ (l : List ℕ). (make_of l B esb lent).answer) front
          ∙ ap (λ (x : Outcome (Result Format Refusal)). x.answer) (cut_made asked format w B esb reading.turn reading.flipped u c a.scrambling a.shaping lent room);
      bits =
          ap (λ (l : List ℕ). cut F.n reading.turn reading.flipped (take F.n (make_of l B esb lent).output)) front
          ∙ cut_again asked format w B esb reading.turn reading.flipped u c a.scrambling a.shaping lent room;
    }

capture_again : (s out : List ℕ) (p : ℕ) (reading : Reading) (o : List ℕ) → search_read_of s out ≡ outcome (Ok (found_with p reading)) o
    → (lent : List ℕ) → (numbers_of reading.format).n ≤ length lent → MadeAgain reading o lent (drop p s)
capture_again s out p reading o e lent room =
    let F = numbers_of reading.format in
    let (found, reads) = (search_reads s out).reads p reading (ap (λ (x : Outcome (Result Found Refusal)). x.answer) e) in
    let again =
    window_again Proper (stretch_of s) out reading o
    (reads ∙ ap (λ (x : Outcome (Result Found Refusal)). outcome (Ok reading) x.output) e) lent room in
    record {
      answers = again.answers;
      bits =
          again.bits ∙ ap (take F.n) ((searches s).stretch p reading found)
          ∙ take-take F.n (window_bits F) (drop p s) (omega arith);
    }

-- ---- what was encoded

encoded_again : (u out : List ℕ) (format : Format) (B esb tried : ℕ) → (encode_of u out).answer ≡ Ok (encoded_with format B esb tried)
    → (lent : List ℕ) → (numbers_of format).n ≤ length lent
    → make_of u B esb lent ≡ wrote format (take (numbers_of format).n (encode_of u out).output) lent
encoded_again u out format B esb tried e lent room =
    let F = numbers_of format in
    let a = encode_accepted u out format B esb tried e in
    let in_order : InOrder format u B esb lent =
    record {
      size = a.clean.size;
      bits = a.clean.bits;
      scrambling = a.first.scrambling;
      shaping = a.first.shaping;
      room = room;
    } in
    let formed = (proper_parts format (telegram_of F u B esb) a.first.proper_pair).is_well_formed in
    makes u B esb lent format in_order formed
    ∙ ap (λ (b : List ℕ). wrote format b lent) (sym (accepted_front u out format B esb tried e))

-- ---- what was made

reads_back_lem : (u : List ℕ) (B esb : ℕ) (lent : List ℕ) (format : Format) → (make_of u B esb lent).answer ≡ Ok format
    → (t : ℕ) → t < (numbers_of format).n → (flipped : Bool) (out : List ℕ) → (numbers_of format).m ≤ length out
    → let b = take (numbers_of format).n (make_of u B esb lent).output in
    read_well_formed_of (cut (window_bits (numbers_of format)) t flipped b) out ≡ gave_block format B esb t flipped u out
reads_back_lem u B esb lent format e t below flipped out room =
    let F = numbers_of format in
    let b = telegram_of F u B esb in
    let whole = (made u B esb lent format e).1 in
    let (in_order, c) = ((makes_exactly u B esb lent).gives format b).0 whole in
    let stands = wrote-front format b lent (make_of u B esb lent) (parts F b c.is_well_formed).size whole in
    rw stands
    (cut_read WellFormed format (cut (window_bits F) t flipped b) out room B esb t flipped u
    (record {
      telegram = b;
      as_asked = c.is_well_formed;
      scrambling = c.scrambling;
      shaping = c.shaping;
      user_bits = c.user_bits;
      turn = below;
      window = refl;
    }))

pub makes_again : MakesAgain
makes_again = record { window = window_again; capture = capture_again; encoded = encoded_again; reads_back = reads_back_lem }
