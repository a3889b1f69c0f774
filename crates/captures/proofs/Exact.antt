-- Searching a capture finds the first place at which read accepts, long before short at one place (document 01, "Search, reading and
-- place"), and refuses as its table says ("When the bench says no"). Assumes nothing.
use mathlib.Core.Path.{◌≡◌, refl, sym, ap, ap₂, subst, subst⁻¹, ◌∙◌}
use mathlib.Core.Bool.{Bool, true, false, true≢false, not}
use mathlib.Core.List.{List, [], ◌∷◌, ◌++◌}
use mathlib.Core.Logic.{inl, inr}
use Prim.Native.Nat.{ℕ, ◌+◌, ◌≤◌, ◌<◌}
use native.Mathlib.Omega.{arith}
use borrow.Author.Tests.{not-false, le-leb, leb-true}
use lib.Dec.{T, leb, leb→le}
use lib.ListN.{length, drop}
use Rattle.bits.specs.Bits.{all_bits}
use Rattle.bits.specs.Search.{First, found, none, is_found, which_found}
use Rattle.bits.proofs.First.{first_found, first_missing, missing_first}
use Rattle.bits.proofs.Tests.{clash, holds, is_true, is_false}
use Rattle.formats.specs.declared.format.Format.{Format}
use Rattle.formats.specs.declared.format.Format.TheVariants.{Long, Short}
use Rattle.formats.specs.Numbers.{long, numbers_of, window_bits}
use Rattle.formats.proofs.Sizes.{window_between, block_between}
use Rattle.refusals.specs.declared.Refusal.{Refusal}
use Rattle.refusals.specs.declared.Refusal.TheVariants.{NoPlace}
use Rattle.refusals.specs.Refused.{refusal_number}
use Rattle.refusals.specs.Table.{Verdict, refused, accepted, verdict, answer_by, FirstApplies, RefusesBy, rises_above, ◌when◌}
use Rattle.refusals.specs.Outcome.{Outcome, outcome}
use Rattle.refusals.proofs.Table.{Decides, NoRow, accepted_no_row, passed, failed, all_passed, given, answer_by_lem, answer_said, outcome-kept, refuses_by}
use Rattle.reader.specs.declared.Asked.TheVariants.{Proper}
use Rattle.reader.specs.declared.Reading.{Reading}
use Rattle.reader.specs.Reads.{reading_in, user_bits_in, read_of}
use Rattle.reader.proofs.Laws.{reading_format, reads_as_lem}
use Rattle.captures.specs.Captures.{capture_limit, window_at, accepts_as, accepts_at, first_place, format_at, found_at, found_out, search_table, search_of, stretch_as, stretch_of, search_read_table, search_read_of, found_with}
use Rattle.captures.specs.Attempts.{out_found}
use Rattle.captures.specs.FirstPlace.{ReadsAt, FirstPlace, NoneAccepts, Searched, Searches, SearchReads}
use Rattle.captures.proofs.Places.{window_there, window-length, accepts_fits, long_there, short_there, neither_there, found_there, Passed}
use Rattle.captures.proofs.FoundAt.{same_found, found_as, out_as}
use Rattle.captures.proofs.Steps.{search_decided, by_place, same_answer}
use Rattle.captures.proofs.Accepting.{accepts_reads, reads_accepts, not_accepted, accepted_not, format-accepts, none-accepts}
use Rattle.std.specs.Prelude.{Result, Ok, Err}
use Rattle.captures.specs.declared.Found.{Found}

-- ---- refusals

abbrev said : Result Found Refusal → Verdict Refusal
said (Ok f) = accepted
said (Err r) = refused r

refused_only : (a : Result Found Refusal) (r : Refusal) → said a ≡ refused r → a ≡ Err r
refused_only (Ok f) r e = clash cc
refused_only (Err q) r e = cc

module _ (s : List ℕ) where
  search_said : said (search_of s) ≡ verdict (search_table s)
  unfolding search_of found_at
  search_said = answer_said Err said (λ r. refl) (found_at s (which_found (first_place s))) refl (verdict (search_table s))

  search_rises : T (rises_above refusal_number 0 (search_table s))
  unfolding rises_above search_table
  search_rises = tt

  search_refuses : RefusesBy refusal_number Err (search_table s) (search_of s)
  search_refuses = refuses_by Err said (λ r. refl) refused_only refusal_number (search_table s) search_rises (search_of s) search_said

-- a test that does not refuse holds
unrefused : (t : Bool) → (T (not t) → ⊥) → T t
unrefused true h = tt
unrefused false h = h tt

-- ---- what an answer tells

-- the first place, and the reading there
pub record FoundAt (s : List ℕ) (p : ℕ) (reading : Reading) : Type 0 where
  pub within : length s ≤ capture_limit
  pub bits : T (all_bits s)
  pub first : first_place s ≡ found p
  pub accepts : T (accepts_as (format_at s p) s p)
  pub reads : reading ≡ reading_in (format_at s p) (window_at (format_at s p) s p)

found-format : (s : List ℕ) (p : ℕ) (reading : Reading) → FoundAt s p reading → reading.format ≡ format_at s p
found-format s p reading h =
    ap (λ (r : Reading). r.format) h.reads ∙ reading_format (format_at s p) (window_at (format_at s p) s p)

module _ (s : List ℕ) where
  no_row_found : (f : First) → first_place s ≡ f → NoRow (search_table s) → (p : ℕ) (reading : Reading)
      → found_at s (which_found (first_place s)) ≡ Ok (found_with p reading) → FoundAt s p reading
  unfolding NoRow search_table first_place
  no_row_found (found q) f (within, (bits, rest)) p reading e =
      let here : found_at s q ≡ Ok (found_with p reading) = ap (λ (x : First). found_at s (which_found x)) (sym f) ∙ e in
      let (place, is) = same_found (sym (found_as s q (format_at s q) refl) ∙ here) in
      subst (λ (k : ℕ). FoundAt s k reading) place
      (record {
        within = leb-true (length s) capture_limit (not-false (leb (length s) capture_limit) within);
        bits = holds (all_bits s) (not-false (all_bits s) bits);
        first = f;
        accepts = format-accepts s q (first_found (accepts_at s) 0 (length s) q f).passed;
        reads = sym is;
      })
  no_row_found none f (within, (bits, (some, rest))) p reading e =
      absurd (true≢false (sym (ap (λ (x : First). not (is_found x)) f) ∙ some))

  pub found-tells : (p : ℕ) (reading : Reading) → search_of s ≡ Ok (found_with p reading) → FoundAt s p reading
  unfolding search_of
  found-tells p reading e = go (verdict (search_table s)) refl e
    where
      go : (v : Verdict Refusal) → verdict (search_table s) ≡ v → answer_by Err (found_at s (which_found (first_place s))) v ≡ Ok (found_with p reading)
          → FoundAt s p reading
      go (refused r) f e = clash cc
      go accepted f e = no_row_found (first_place s) refl (accepted_no_row (search_table s) f) p reading e

  -- the whole window is in the capture
  pub found_fits : (p : ℕ) (reading : Reading) → search_of s ≡ Ok (found_with p reading) → p + window_bits (numbers_of reading.format) ≤ length s
  found_fits p reading e =
      let h = found-tells p reading e in
      subst⁻¹ (λ (f : Format). p + window_bits (numbers_of f) ≤ length s) (found-format s p reading h) (accepts_fits (format_at s p) s p h.accepts)

  -- ---- the first place by the tests is the first place, and the other way round

  -- a short reading is of a place at which no long window is accepted
  long_not_short : (p : ℕ) (reading : Reading) → FoundAt s p reading → reading.format ≡ Short → T (accepts_as Long s p) → ⊥
  long_not_short p reading h e t =
      let other = (long_there s p (is_true (accepts_as Long s p) t)).1 in
      let clashes : Short ≡ Long = sym e ∙ found-format s p reading h ∙ other in
      clash cc

  first_place_lem : (p : ℕ) (reading : Reading) → FoundAt s p reading → FirstPlace s p reading
  unfolding first_place
  first_place_lem p reading h =
      let same = found-format s p reading h in
      let is = first_found (accepts_at s) 0 (length s) p h.first in
      record {
        here = subst⁻¹ (λ (f : Format). ReadsAt f s p reading) same
            (subst⁻¹ (ReadsAt (format_at s p) s p) h.reads (accepts_reads (format_at s p) s p h.accepts));
        earlier = λ j below format. not_accepted format s j (none-accepts s j (is.earlier j (omega arith) below) format);
        long_first = λ e. not_accepted Long s p (is_false (accepts_as Long s p) (λ t. long_not_short p reading h e t));
      }

  -- past the tests of length and bytes
  searched_passed : {v : Verdict Refusal} → Searched s → Decides ((NoPlace when not (is_found (first_place s))) ∷ []) v → Decides (search_table s) v
  unfolding search_table
  searched_passed (within, bits) d = passed (le-leb (length s) capture_limit within) (passed (is_true (all_bits s) bits) d)

  place_first : (p : ℕ) (reading : Reading) → Searched s → FirstPlace s p reading → search_of s ≡ Ok (found_with p reading)
  place_first p reading searched h =
      let (accepts, reads) = reads_accepts reading.format s p reading h.here in
      let (at, is) = as_format reading.format refl (is_true (accepts_as reading.format s p) accepts) in
      let earlier : Passed s p =
      λ (j : ℕ) (below : j < p). neither_there s j (accepted_not Long s j (h.earlier j below Long)) (accepted_not Short s j (h.earlier j below Short)) in
      let first = found_there s p earlier at (omega (arith, h.here.fits, window_between reading.format)) in
      search_decided s accepted
      (searched_passed searched (passed (ap is_found first) all_passed))
      ∙ ap (λ (x : First). found_at s (which_found x)) first
      ∙ found_as s p reading.format is
      ∙ ap (λ (r : Reading). Ok (found_with p r)) (sym reads)
    where
      as_format : (f : Format) → reading.format ≡ f → accepts_as f s p ≡ true → (accepts_at s p ≡ true) × (format_at s p ≡ f)
      as_format Long e a = long_there s p a
      as_format Short e a = short_there s p (accepted_not Long s p (h.long_first e)) a

  -- ---- the stretch

  pub stretch-found : (p : ℕ) (reading : Reading) → search_of s ≡ Ok (found_with p reading) → stretch_of s ≡ window_at reading.format s p
  unfolding stretch_of
  stretch-found p reading e = ap (stretch_as s) e

  pub stretch-none : (refusal : Refusal) → search_of s ≡ Err refusal → stretch_of s ≡ []
  unfolding stretch_of
  stretch-none refusal e = ap (stretch_as s) e

  -- ---- no place

  nothing_found : (f : First) → first_place s ≡ f → T (not (is_found f)) → first_place s ≡ none
  nothing_found (found p) e t = absurd t
  nothing_found none e t = e

  missing_none : T (not (is_found (first_place s))) → NoneAccepts s
  unfolding first_place
  missing_none h p format reading reads =
      let below : p < length s = omega (arith, reads.fits, window_between format) in
      not_accepted format s p (none-accepts s p (first_missing (accepts_at s) 0 (length s) (nothing_found (first_place s) refl h) p (omega arith) (omega arith)) format) reading reads

  row_tells : FirstApplies (search_table s) NoPlace → Searched s × NoneAccepts s
  unfolding FirstApplies search_table
  row_tells (inl (is, h)) = clash cc
  row_tells (inr (within, inl (is, h))) = clash cc
  row_tells (inr (within, inr (bits, inl (is, h)))) =
      ((leb→le (length s) capture_limit (unrefused (leb (length s) capture_limit) within), unrefused (all_bits s) bits), missing_none h)
  row_tells (inr (within, inr (bits, inr (place, h)))) = absurd h

  none-tells : search_of s ≡ Err NoPlace → Searched s × NoneAccepts s
  none-tells e = row_tells ((given (search_table s) NoPlace).0 (sym (search_said s) ∙ ap said e))

  tells_none : Searched s → NoneAccepts s → search_of s ≡ Err NoPlace
  unfolding first_place
  tells_none searched h =
      let missing = missing_first (accepts_at s) 0 (length s)
      (λ j from below. neither_there s j (accepted_not Long s j (h j Long)) (accepted_not Short s j (h j Short))) in
      search_decided s (refused NoPlace) (searched_passed searched (failed (ap is_found missing)))

  pub searches : Searches s
  searches =
      record {
        refuses = search_refuses s;
        finds = λ p reading. (
          λ e. let h = found-tells p reading e in ((h.within, h.bits), first_place_lem p reading h),
          λ h. place_first p reading h.0 h.1,
        );
        no_place = (none-tells, λ h. tells_none h.0 h.1);
        stretch = λ p reading e. stretch-found p reading e ∙ window_there reading.format s p (found_fits p reading e);
        stretch_length = λ p reading e. ap length (stretch-found p reading e) ∙ window-length reading.format s p (found_fits p reading e);
        no_stretch = stretch-none;
      }

-- ---- the search that writes

module _ (s out : List ℕ) where
  read_said : said (search_read_of s out).answer ≡ verdict (search_read_table (length out) s)
  unfolding search_read_of found_out found_at
  read_said =
      let accept = found_out s (which_found (first_place s)) out in
      let v = verdict (search_read_table (length out) s) in
      ap said (answer_by_lem Err out accept v) ∙ answer_said Err said (λ r. refl) accept.answer refl v

  read_rises : T (rises_above refusal_number 0 (search_read_table (length out) s))
  unfolding rises_above search_read_table
  read_rises = tt

  read_refuses : RefusesBy refusal_number Err (search_read_table (length out) s) (search_read_of s out).answer
  read_refuses =
      refuses_by Err said (λ r. refl) refused_only refusal_number (search_read_table (length out) s) read_rises (search_read_of s out).answer read_said

  read_keeps : (r : Refusal) → (search_read_of s out).answer ≡ Err r → (search_read_of s out).output ≡ out
  unfolding search_read_of found_out found_at
  read_keeps r =
      outcome-kept Err said (λ r. refl) out (found_out s (which_found (first_place s)) out) refl (verdict (search_read_table (length out) s)) r

  with_room_lem : NoRow (search_read_table (length out) s) → long.m ≤ length out
  unfolding NoRow search_read_table
  with_room_lem (within, (bits, (room, rest))) = leb-true long.m (length out) (not-false (leb long.m (length out)) room)

  stretch_read : (p : ℕ) (format : Format) → T (accepts_as format s p) → (numbers_of format).m ≤ length out
      → read_of (window_at format s p) out
      ≡ outcome (Ok (reading_in format (window_at format s p))) (user_bits_in format (window_at format s p) ++ drop (numbers_of format).m out)
  unfolding accepts_as
  stretch_read p format h room = reads_as_lem Proper format (window_at format s p) out h room

  stretch_reads : (p : ℕ) (reading : Reading) → (search_read_of s out).answer ≡ Ok (found_with p reading)
      → (search_of s ≡ Ok (found_with p reading)) × (read_of (stretch_of s) out ≡ outcome (Ok reading) (search_read_of s out).output)
  stretch_reads p reading e =
      let room = with_room_lem (accepted_no_row (search_read_table (length out) s) (sym read_said ∙ ap said e)) in
      let found-s : search_of s ≡ Ok (found_with p reading) = sym (same_answer s out room) ∙ e in
      let h = found-tells s p reading found-s in
      let format = format_at s p in
      let stretch = stretch-found s p reading found-s ∙ ap (λ (f : Format). window_at f s p) (found-format s p reading h) in
      let there = by_place s out (record { within = h.within; bits = h.bits; room = room }) ∙ ap (out_found s out) h.first ∙ out_as s p out format refl in (
        found-s,
        ap (λ (w : List ℕ). read_of w out) stretch
            ∙ stretch_read p format h.accepts (omega (arith, block_between format))
            ∙ ap₂ (λ (r : Reading) (o : List ℕ). outcome (Ok r) o) (sym h.reads) (sym (ap (λ (x : Outcome (Result Found Refusal)). x.output) there)),
      )

  pub search_reads : SearchReads s out
  search_reads = record { refuses = read_refuses; answers = same_answer s out; reads = stretch_reads; keeps = read_keeps }
