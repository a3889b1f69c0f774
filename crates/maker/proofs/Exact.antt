-- Making a telegram means what it is to mean: it refuses by its table, and makes the well-formed telegram of block, B and esb exactly where
-- there is one. Assumes nothing.
use mathlib.Core.Path.{◌≡◌, refl, sym, ap, subst, ◌∙◌}
use mathlib.Core.List.{List}
use mathlib.Core.Logic.{◌↔◌}
use Prim.Native.Nat.{ℕ, ◌≤◌}
use lib.Dec.{T}
use lib.ListN.{length, drop}
use Rattle.bits.proofs.Tests.{is_true, clash}
use Rattle.formats.specs.declared.format.Format.{Format}
use Rattle.formats.specs.Numbers.{numbers_of, blocks}
use Rattle.formats.proofs.Sizes.{sizes_of}
use Rattle.words.specs.declared.BadWord.{BadWord}
use Rattle.refusals.specs.declared.Refusal.{Refusal}
use Rattle.refusals.specs.declared.Refusal.TheVariants.{NotWord}
use Rattle.refusals.specs.Table.{refused, accepted}
use Rattle.refusals.specs.Outcome.{Outcome, FrontWritten}
use Rattle.refusals.proofs.Table.{refuses_in_order}
use Rattle.refusals.proofs.Fronts.{front-written, fronts_same}
use Rattle.cyclic.proofs.Formats.{facts_of}
use Rattle.telegrams.specs.Telegram.{telegram_of}
use Rattle.telegrams.specs.Fields.{all_words, well_formed}
use Rattle.telegrams.specs.Worded.{IsFirstBad}
use Rattle.telegrams.proofs.FirstBad.{first_bad_lem, first_bad_after}
use Rattle.telegrams.proofs.Made.{length_made, words_made, scrambling_made, shaping_made, user_bits_made}
use Rattle.telegrams.proofs.WellFormed.{parts, remade, made_by_words}
use Rattle.maker.specs.Making.{format_of, make_table, wrote, make_of}
use Rattle.maker.specs.Makes.{InOrder, Carries, MakeAnswers, MakesExactly}
use Rattle.maker.proofs.Steps.{word_refused, telegram_made, accepted_in_order, refused_in_order, said, by_verdict, tells}
use Rattle.std.specs.Prelude.{Result, Ok, Err}

-- only a refusal tells that it is one
only : (a : Result Format Refusal) (r : Refusal) → said a ≡ refused r → a ≡ Err r
only (Err q) r e = cc
only (Ok format) r e = clash cc

module _ (u : List ℕ) (B esb : ℕ) (out : List ℕ) where
  -- ---- a telegram is made

  -- the telegram is well-formed exactly where its words are all in the table
  words_formed : (format : Format) → let F = numbers_of format in
      well_formed F (telegram_of F u B esb) ≡ all_words F.words (telegram_of F u B esb)
  words_formed format = made_by_words (numbers_of format) (facts_of format) (sizes_of format) u B esb

  -- where one is, the input is in order, the telegram well-formed, and it is what was written
  pub made : (format : Format) → (make_of u B esb out).answer ≡ Ok format → let F = numbers_of format in
      (InOrder format u B esb out × T (well_formed F (telegram_of F u B esb))) × (make_of u B esb out ≡ wrote format (telegram_of F u B esb) out)
  made format e =
      let v = sym (tells u B esb out) ∙ ap said e in
      let whole = by_verdict u B esb out accepted v in
      let answers = sym (ap (λ (x : Outcome (Result Format Refusal)). x.answer) whole) ∙ e in
      let picked : format_of u ≡ format = cc in
      let (in_order, words) = accepted_in_order (format_of u) u B esb out v in
      subst (λ (f : Format). let F = numbers_of f in
      (InOrder f u B esb out × T (well_formed F (telegram_of F u B esb))) × (make_of u B esb out ≡ wrote f (telegram_of F u B esb) out))
      picked ((in_order, subst T (sym (words_formed (format_of u))) words), whole)

  -- and the other way
  pub makes : (format : Format) → InOrder format u B esb out → T (well_formed (numbers_of format) (telegram_of (numbers_of format) u B esb))
      → make_of u B esb out ≡ wrote format (telegram_of (numbers_of format) u B esb) out
  makes format in_order formed = telegram_made format u B esb out in_order (is_true _ (subst T (words_formed format) formed))

  -- ---- the telegram carries what it was made from, and is the only one that does

  carries : (format : Format) → InOrder format u B esb out → let F = numbers_of format in
      T (well_formed F (telegram_of F u B esb)) → Carries format (telegram_of F u B esb) u B esb
  carries format h formed =
      let F = numbers_of format in
      let A = facts_of format in
      let S = sizes_of format in
      record {
        is_well_formed = formed;
        scrambling = scrambling_made F A S u B esb h.scrambling;
        shaping = shaping_made F A S u B esb h.shaping;
        user_bits = user_bits_made F A S u B esb h.bits h.size h.scrambling;
      }

  only_one : (format : Format) (b : List ℕ) → Carries format b u B esb → b ≡ telegram_of (numbers_of format) u B esb
  only_one format b c =
      let F = numbers_of format in
      remade F (sizes_of format) b (parts F b c.is_well_formed) ∙ rw (c.user_bits, c.scrambling, c.shaping)

  gives_forth : (format : Format) (b : List ℕ) → make_of u B esb out ≡ wrote format b out → InOrder format u B esb out × Carries format b u B esb
  gives_forth format b e =
      let F = numbers_of format in
      let ((in_order, formed), whole) = made format (ap (λ (x : Outcome (Result Format Refusal)). x.answer) e) in
      let outputs = ap (λ (x : Outcome (Result Format Refusal)). x.output) (sym whole ∙ e) in
      let same : telegram_of F u B esb ≡ b = fronts_same (telegram_of F u B esb) b (drop F.n out) outputs in
      (in_order, subst (λ (t : List ℕ). Carries format t u B esb) same (carries format in_order formed))

  gives_back : (format : Format) (b : List ℕ) → InOrder format u B esb out → Carries format b u B esb → make_of u B esb out ≡ wrote format b out
  gives_back format b in_order c =
      let F = numbers_of format in
      let is = only_one format b c in
      makes format in_order (subst (λ (t : List ℕ). T (well_formed F t)) is c.is_well_formed) ∙ ap (λ (t : List ℕ). wrote format t out) (sym is)

  -- ---- the bad word that refusal 9 carries

  names : (bad : BadWord) → ((make_of u B esb out).answer ≡ Err (NotWord bad))
      ↔ (let F = numbers_of (format_of u) in InOrder (format_of u) u B esb out × IsFirstBad F.words (telegram_of F u B esb) bad)
  names bad =
      let F = numbers_of (format_of u) in (
        λ e. refused_in_order (format_of u) u B esb out bad (sym (tells u B esb out) ∙ ap said e),
        λ p.
            let (some, is) = (first_bad_lem (telegram_of F u B esb) F.words bad).1 p.1 in
            ap (λ (x : Outcome (Result Format Refusal)). x.answer) (word_refused (format_of u) u B esb out p.0 some) ∙ ap (λ (x : BadWord). Err (NotWord x)) is,
      )

  last_ten_lem : (bad : BadWord) → (make_of u B esb out).answer ≡ Err (NotWord bad) → blocks (numbers_of (format_of u)) ≤ bad.index
  last_ten_lem bad e =
      let format = format_of u in
      let F = numbers_of format in
      first_bad_after (telegram_of F u B esb) F.words (blocks F) (words_made F (facts_of format) (sizes_of format) u B esb) bad ((names bad).0 e).1

  -- ---- all of it

  front-over : (format : Format) → (make_of u B esb out).answer ≡ Ok format
      → FrontWritten (numbers_of format).n out (make_of u B esb out).output
  front-over format e =
      let F = numbers_of format in
      let ((in_order, formed), whole) = made format e in
      rw whole (front-written F.n (telegram_of F u B esb) out (length_made F (facts_of format) (sizes_of format) u B esb) in_order.room)

  pub make_answers : MakeAnswers u B esb out
  make_answers =
      record {
        refuses =
            refuses_in_order Err said (λ r. refl) only (make_table (format_of u) (length out) u B esb) (make_of u B esb out).answer
            (tells u B esb out);
        names = names;
        last_ten = last_ten_lem;
        keeps = λ r e. ap (λ (x : Outcome (Result Format Refusal)). x.output) (by_verdict u B esb out (refused r) (sym (tells u B esb out) ∙ ap said e));
        writes = front-over;
      }

  pub makes_exactly : MakesExactly u B esb out
  makes_exactly =
      record {
        succeeds = λ format. (λ e. (made format e).0, λ p. ap (λ (x : Outcome (Result Format Refusal)). x.answer) (makes format p.0 p.1));
        gives = λ format b. (gives_forth format b, λ p. gives_back format b p.0 p.1);
      }
