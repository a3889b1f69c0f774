-- Whatever a call answers fits the fields of its number, and so is read back from it: B has twelve bits, esb and a turn have ten, a
-- count has 23, a place is within the limit, and a bad word is one of a telegram. Assumes nothing.
use mathlib.Core.Path.{◌≡◌, refl, sym, ap, subst, ◌∙◌}
use mathlib.Core.Bool.{Bool, true, false, cond}
use mathlib.Core.List.{List, ◌∷◌}
use Prim.Native.Nat.{ℕ, ◌≤◌, ◌<◌}
use native.Mathlib.Omega.{arith}
use lib.Dec.{eqb}
use lib.ListN.{length, replicate, length-replicate}
use Rattle.formats.specs.declared.format.Format.{Format}
use Rattle.formats.specs.declared.format.Format.TheVariants.{Long, Short}
use Rattle.formats.specs.Numbers.{numbers_of}
use Rattle.formats.proofs.Sizes.{words_fill, telegram_between}
use Rattle.words.specs.declared.BadWord.{BadWord}
use Rattle.words.proofs.FourCases.{kind_small}
use Rattle.refusals.specs.declared.Refusal.{Refusal}
use Rattle.refusals.specs.declared.Refusal.TheVariants.{NotWord}
use Rattle.refusals.specs.Outcome.{Outcome, outcome}
use Rattle.refusals.specs.Refused.{pair_count, refusal_number, tried_count, bad_word_in}
use Rattle.refusals.specs.AnswerValues.{format_number, flipped_number, refusal_values}
use Rattle.refusals.proofs.Numbers.{number_fits, carried}
use Rattle.encoder.specs.Encoding.{encoded_values, encode_of}
use Rattle.encoder.proofs.Accepted.{encode_accepted}
use Rattle.checker.specs.Checking.{checked_values, format_of as formatOfTelegram, check_of}
use Rattle.checker.proofs.Exact.{checks}
use Rattle.maker.specs.Making.{made_values, format_of as formatOfBlock, make_of}
use Rattle.maker.proofs.Exact.{make_answers}
use Rattle.lister.specs.Listing.{listed_values, next_of}
use Rattle.lister.proofs.Exact.{next_pair_small}
use Rattle.reader.specs.declared.Asked.{Asked}
use Rattle.reader.specs.declared.Asked.TheVariants.{Proper}
use Rattle.reader.specs.declared.Reading.{Reading}
use Rattle.reader.specs.Reads.{reading_values, read_values, format_of as formatOfWindow, read_by}
use Rattle.reader.proofs.Laws.{read_accepted}
use Rattle.reader.proofs.NamesBadWord.{named_below}
use Rattle.captures.specs.Captures.{capture_values, window_at, search_of, found_with}
use Rattle.captures.proofs.Exact.{searches}
use Rattle.balise.specs.AsNumber.{packed, encoded_sizes, checked_sizes, made_sizes, listed_sizes, read_sizes, search_sizes, Fits, ReadBack}
use Rattle.balise.proofs.Fields.{fits_back}
use Rattle.std.specs.Prelude.{Option, Result, Some, None, Ok, Err}
use Rattle.encoder.specs.declared.Encoded.{Encoded}
use Rattle.lister.specs.declared.Listed.{Listed}
use Rattle.captures.specs.declared.Found.{Found}

-- ---- answers that are equal

module _ {A : Type 0} (sizes : List ℕ) (values : A → List ℕ) {a b : A} (e : a ≡ b) where
  pub same_fits : Fits sizes (values a) → Fits sizes (values b)
  same_fits = subst (λ (x : A). Fits sizes (values x)) e

  pub same_number : packed sizes (values a) ≡ packed sizes (values b)
  same_number = ap (λ (x : A). packed sizes (values x)) e

-- what a call that writes is to answer, and what it answered and left in the output
module _ {A : Type 0} (sizes : List ℕ) (values : A → List ℕ) {due : Outcome A} {a : A} {o : List ℕ} (e : due ≡ outcome a o) where
  pub answer_fits : Fits sizes (values due.answer) → Fits sizes (values a)
  answer_fits = same_fits sizes values (ap (λ (x : Outcome A). x.answer) e)

  pub answer_packed : {n : ℕ} → n ≡ packed sizes (values a) → (n ≡ packed sizes (values due.answer)) × (o ≡ due.output)
  answer_packed f = (
    f ∙ sym (same_number sizes values (ap (λ (x : Outcome A). x.answer) e)),
    sym (ap (λ (x : Outcome A). x.output) e),
  )

-- ---- single values

format_fits : (format : Format) → format_number format < 2
format_fits Long = omega arith
format_fits Short = omega arith

flipped_fits : (flipped : Bool) → flipped_number flipped < 2
flipped_fits true = omega arith
flipped_fits false = omega arith

tried_fits : (refusal : Refusal) → tried_count refusal < 8388608
tried_fits refusal = go (eqb (refusal_number refusal) 4)
  where
    go : (all : Bool) → cond all pair_count 0 < 8388608
    go true = omega arith
    go false = omega arith

-- a refusal whose bad word, if it carries one, is a word of a telegram
refusal_fits : (refusal : Refusal) (format : Format) → ((bad : BadWord) → refusal ≡ NotWord bad → bad.index < (numbers_of format).words)
    → Fits checked_sizes (refusal_values refusal)
refusal_fits refusal format below =
    let most : (numbers_of format).words < 1024 = omega (arith, words_fill format, telegram_between format) in
    let index : (bad_word_in refusal).index < 1024 = carried (λ bad. bad.index < 1024) refusal (omega arith) (λ bad e. omega (arith, below bad e)) in
    search (arith, number_fits refusal, kind_small (bad_word_in refusal).kind, index)

-- ---- encode

module _ (u out : List ℕ) where
  pub encode_fits : Fits encoded_sizes (encoded_values (encode_of u out).answer)
  encode_fits = go (encode_of u out).answer refl
    where
      go : (a : Result Encoded Refusal) → (encode_of u out).answer ≡ a → Fits encoded_sizes (encoded_values a)
      go (Ok first) e =
          let h = encode_accepted u out first.format first.pair.scrambling first.pair.shaping first.tried e in
          search (arith, format_fits first.format, h.first.scrambling, h.first.shaping, h.most)
      go (Err refusal) e = search (arith, number_fits refusal, tried_fits refusal)

  pub encode_back : ReadBack encoded_sizes (encoded_values (encode_of u out).answer)
  encode_back = fits_back encoded_sizes (encoded_values (encode_of u out).answer) encode_fits

-- ---- check

module _ (b : List ℕ) where
  pub check_fits : Fits checked_sizes (checked_values (check_of b))
  check_fits = go (check_of b) refl
    where
      go : (a : Result Format Refusal) → check_of b ≡ a → Fits checked_sizes (checked_values a)
      go (Ok format) e = search (arith, format_fits format)
      go (Err refusal) e =
          refusal_fits refusal (formatOfTelegram b) (λ bad is. (((checks b).names bad).0 (e ∙ ap (λ (r : Refusal). Err r) is)).1.among)

  pub check_back : ReadBack checked_sizes (checked_values (check_of b))
  check_back = fits_back checked_sizes (checked_values (check_of b)) check_fits

-- ---- make

module _ (u : List ℕ) (B esb : ℕ) (out : List ℕ) where
  pub make_fits : Fits made_sizes (made_values (make_of u B esb out).answer)
  make_fits = go (make_of u B esb out).answer refl
    where
      go : (a : Result Format Refusal) → (make_of u B esb out).answer ≡ a → Fits made_sizes (made_values a)
      go (Ok format) e = search (arith, format_fits format)
      go (Err refusal) e =
          refusal_fits refusal (formatOfBlock u)
          (λ bad is. (((make_answers u B esb out).names bad).0 (e ∙ ap (λ (r : Refusal). Err r) is)).1.among)

  pub make_back : ReadBack made_sizes (made_values (make_of u B esb out).answer)
  make_back = fits_back made_sizes (made_values (make_of u B esb out).answer) make_fits

-- ---- next

module _ (u : List ℕ) (B esb : ℕ) (out : List ℕ) where
  pub next_fits : Fits listed_sizes (listed_values (next_of u B esb out).answer)
  next_fits = go (next_of u B esb out).answer refl
    where
      go : (a : Result (Option Listed) Refusal) → (next_of u B esb out).answer ≡ a → Fits listed_sizes (listed_values a)
      go (Ok (Some next)) is =
          let small = next_pair_small u B esb out next.format next.pair.scrambling next.pair.shaping is in
          search (arith, format_fits next.format, small.0, small.1)
      go (Ok None) is = search arith
      go (Err refusal) is = search (arith, number_fits refusal)

  pub next-back : ReadBack listed_sizes (listed_values (next_of u B esb out).answer)
  next-back = fits_back listed_sizes (listed_values (next_of u B esb out).answer) next_fits

-- ---- read

module _ (asked : Asked) (w out : List ℕ) where
  reading_fits : (reading : Reading) → (read_by asked w out).answer ≡ Ok reading → (p : ℕ) → p < 65536 → Fits read_sizes (0 ∷ reading_values p reading)
  reading_fits reading e p below =
      let h = read_accepted asked w out reading e in
      search (arith, format_fits reading.format, flipped_fits reading.flipped, telegram_between reading.format, h.scrambling, h.shaping, h.turn)

  pub read_fits : Fits read_sizes (read_values (read_by asked w out).answer)
  read_fits = go (read_by asked w out).answer refl
    where
      go : (a : Result Reading Refusal) → (read_by asked w out).answer ≡ a → Fits read_sizes (read_values a)
      go (Ok reading) e = reading_fits reading e 0 (omega arith)
      go (Err refusal) e =
          refusal_fits refusal (formatOfWindow w) (λ bad is. named_below asked w out bad (e ∙ ap (λ (r : Refusal). Err r) is))

  pub read_back : ReadBack read_sizes (read_values (read_by asked w out).answer)
  read_back = fits_back read_sizes (read_values (read_by asked w out).answer) read_fits

-- ---- search

module _ (s : List ℕ) where
  -- what is found is what read answers for a window, lent room
  found_fits : (p : ℕ) (reading : Reading) → search_of s ≡ Ok (found_with p reading) → Fits search_sizes (capture_values (Ok (found_with p reading)))
  found_fits p reading e =
      let (searched, first) = ((searches s).finds p reading).0 e in
      let m = (numbers_of reading.format).m in
      let out : List ℕ = replicate m 0 in
      let room : m ≤ length out = omega (arith, length-replicate {A = ℕ} m 0) in
      let below : p < 65536 = omega (arith, searched.0, first.here.fits) in
      reading_fits Proper (window_at reading.format s p) out reading (first.here.reads out room) p below

  pub search_fits : Fits search_sizes (capture_values (search_of s))
  search_fits = go (search_of s) refl
    where
      go : (a : Result Found Refusal) → search_of s ≡ a → Fits search_sizes (capture_values a)
      go (Ok found) e = found_fits found.place found.reading e
      go (Err refusal) e = search (arith, number_fits refusal)

  pub search_back : ReadBack search_sizes (capture_values (search_of s))
  search_back = fits_back search_sizes (capture_values (search_of s)) search_fits
