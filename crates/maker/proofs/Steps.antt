-- What making a telegram answers, row by row of its table (document 02, No. 11). Assumes nothing.
use mathlib.Core.Path.{◌≡◌, refl, ap, ◌∙◌}
use mathlib.Core.Bool.{true, false, not}
use mathlib.Core.List.{List, [], ◌∷◌}
use Prim.Native.Nat.{ℕ}
use borrow.Author.Tests.{not-true, not-false}
use lib.Dec.{T}
use lib.ListN.{length}
use Rattle.bits.proofs.Tests.{is_true, holds}
use Rattle.formats.specs.declared.format.Format.{Format}
use Rattle.formats.specs.Numbers.{numbers_of}
use Rattle.words.specs.declared.BadWord.{BadWord}
use Rattle.refusals.specs.declared.Refusal.{Refusal}
use Rattle.refusals.specs.declared.Refusal.TheVariants.{NotWord}
use Rattle.refusals.specs.Refused.{refusal_number}
use Rattle.refusals.specs.Table.{Row, ◌when◌, Verdict, refused, accepted, verdict, answer_by, outcome_by, rises_above}
use Rattle.refusals.specs.Outcome.{Outcome, outcome}
use Rattle.refusals.proofs.Table.{Decides, passed, failed, all_passed, NoRow, accepted_no_row, verdict_more, answer_by_lem, answer_said, refused_first, later_row, this_row}
use Rattle.telegrams.specs.Telegram.{telegram_of}
use Rattle.telegrams.specs.Fields.{all_words}
use Rattle.telegrams.specs.Worded.{bad_word, IsFirstBad}
use Rattle.telegrams.proofs.FirstBad.{first_bad_lem}
use Rattle.maker.specs.Making.{format_of, make_table, wrote, make_as, make_of}
use Rattle.maker.specs.Makes.{InOrder}
use Rattle.maker.specs.PairTests.{pair_table}
use Rattle.maker.proofs.PairTests.{picked, rows_in_order, in_order_accepted}
use Rattle.std.specs.Prelude.{Result, Ok, Err}

-- ---- the table

-- the row after those of the tests
abbrev word_row : Format → List ℕ → ℕ → ℕ → Row Refusal
word_row format u B esb =
    let F = numbers_of format in
    NotWord (bad_word F.words (telegram_of F u B esb)) when not (all_words F.words (telegram_of F u B esb))

-- the tests decide, and where they pass the words
tests_then_words : (format : Format) (room : ℕ) (u : List ℕ) (B esb : ℕ)
    → verdict (make_table format room u B esb) ≡ answer_by refused (verdict (word_row format u B esb ∷ [])) (verdict (pair_table format room u B esb))
unfolding make_table pair_table
tests_then_words format room u B esb = verdict_more (pair_table format room u B esb) (word_row format u B esb ∷ [])

module _ (format : Format) (u : List ℕ) (B esb : ℕ) (out : List ℕ) where
  -- the format is that which the length picks
  decided : (v : Verdict Refusal) → format ≡ format_of u → verdict (make_table format (length out) u B esb) ≡ v
      → make_of u B esb out ≡ outcome_by Err out (wrote format (telegram_of (numbers_of format) u B esb) out) v
  unfolding make_of make_as
  decided v e d = rw (← e, d)

  module _ (in_order : InOrder format u B esb out) where
    -- the tests pass
    past : (v : Verdict Refusal) → Decides (word_row format u B esb ∷ []) v
        → make_of u B esb out ≡ outcome_by Err out (wrote format (telegram_of (numbers_of format) u B esb) out) v
    past v d =
        decided v (picked format u B esb (length out) in_order.size)
        (tests_then_words format (length out) u B esb
        ∙ ap (answer_by refused (verdict (word_row format u B esb ∷ []))) (in_order_accepted format u B esb out in_order)
        ∙ d.verdict_is)

    -- a word is not in the table
    pub word_refused : let F = numbers_of format in
        all_words F.words (telegram_of F u B esb) ≡ false → make_of u B esb out ≡ outcome (Err (NotWord (bad_word F.words (telegram_of F u B esb)))) out
    word_refused e = past _ (failed e)

    -- all are
    pub telegram_made : all_words (numbers_of format).words (telegram_of (numbers_of format) u B esb) ≡ true
        → make_of u B esb out ≡ wrote format (telegram_of (numbers_of format) u B esb) out
    telegram_made e = past accepted (passed e all_passed)

-- ---- the whole table

module _ (format : Format) (u : List ℕ) (B esb : ℕ) (out : List ℕ) where
  -- what no refusal applies to
  pub accepted_in_order : verdict (make_table format (length out) u B esb) ≡ accepted
      → InOrder format u B esb out × T (all_words (numbers_of format).words (telegram_of (numbers_of format) u B esb))
  unfolding make_table NoRow
  accepted_in_order e =
      let (size, (bits, (pair, (room, (words, end))))) = accepted_no_row (make_table format (length out) u B esb) e in (
        rows_in_order format u B esb out size bits pair room,
        holds (all_words (numbers_of format).words (telegram_of (numbers_of format) u B esb)) (not-false _ words),
      )

  -- what is refused with 9
  pub refused_in_order : (bad : BadWord) → verdict (make_table format (length out) u B esb) ≡ refused (NotWord bad)
      → InOrder format u B esb out × IsFirstBad (numbers_of format).words (telegram_of (numbers_of format) u B esb) bad
  unfolding make_table rises_above
  refused_in_order bad e =
      let F = numbers_of format in
      let words = all_words F.words (telegram_of F u B esb) in
      let (size, f) = later_row refusal_number tt (refused_first (make_table format (length out) u B esb) (NotWord bad) e) in
      let (bits, f) = later_row refusal_number tt f in
      let (pair, f) = later_row refusal_number tt f in
      let (room, f) = later_row refusal_number tt f in
      let (is, some) = this_row refusal_number tt f in
      (rows_in_order format u B esb out size bits pair room, (first_bad_lem (telegram_of F u B esb) F.words bad).0 (not-true words (is_true (not words) some), cc))

-- the verdict that an answer tells
abbrev pub said : Result Format Refusal → Verdict Refusal
said (Err r) = refused r
said (Ok format) = accepted

module _ (u : List ℕ) (B esb : ℕ) (out : List ℕ) where
  abbrev table : Verdict Refusal
  table = verdict (make_table (format_of u) (length out) u B esb)

  abbrev written : Outcome (Result Format Refusal)
  written = wrote (format_of u) (telegram_of (numbers_of (format_of u)) u B esb) out

  -- the outcome by the verdict
  pub by_verdict : (v : Verdict Refusal) → table ≡ v → make_of u B esb out ≡ outcome_by Err out written v
  unfolding make_of make_as
  by_verdict v e = rw e

  -- a refusal of the tests is that of the call
  pub tests_refuse : (r : Refusal) → verdict (pair_table (format_of u) (length out) u B esb) ≡ refused r → make_of u B esb out ≡ outcome (Err r) out
  tests_refuse r e =
      by_verdict (refused r)
      (tests_then_words (format_of u) (length out) u B esb ∙ ap (answer_by refused (verdict (word_row (format_of u) u B esb ∷ []))) e)

  pub tells : said (make_of u B esb out).answer ≡ table
  tells =
      ap (λ (x : Outcome (Result Format Refusal)). said x.answer) (by_verdict table refl)
      ∙ ap said (answer_by_lem Err out written table)
      ∙ answer_said Err said (λ r. refl) written.answer refl table
