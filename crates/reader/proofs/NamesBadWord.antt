-- Refusal 9 names the first bad word of the telegram that a window is cut from, whatever the turn and whichever way up (document 02, No. 13).
-- Assumes nothing.
use mathlib.Core.Path.{◌≡◌, sym, ap, ◌∙◌}
use mathlib.Core.Bool.{not}
use mathlib.Core.List.{List}
use Prim.Native.Nat.{ℕ, ◌≤◌, ◌<◌}
use native.Mathlib.Omega.{arith}
use borrow.Author.Tests.{eqb-true, not-true, not-false}
use lib.Dec.{T, eqb}
use lib.ListN.{length, take}
use Rattle.bits.specs.Bits.{all_bits, same}
use Rattle.bits.proofs.Equal.{equal_same}
use Rattle.bits.proofs.Tests.{is_true}
use Rattle.formats.specs.declared.format.Format.{Format}
use Rattle.formats.specs.Numbers.{numbers_of, window_bits}
use Rattle.words.specs.declared.BadWord.{BadWord}
use Rattle.refusals.specs.declared.Refusal.TheVariants.{NotWord}
use Rattle.refusals.specs.Refused.{refusal_number}
use Rattle.refusals.specs.Table.{refused, verdict, rises_above}
use Rattle.refusals.specs.Outcome.{Outcome, outcome}
use Rattle.refusals.proofs.Table.{refused_first, later_row, this_row}
use Rattle.cyclic.specs.Check.{divisible}
use Rattle.telegrams.specs.Telegram.{control}
use Rattle.telegrams.specs.Fields.{control_of, all_words}
use Rattle.telegrams.specs.Worded.{IsFirstBad}
use Rattle.telegrams.proofs.FirstBad.{first_bad_lem}
use Rattle.conditions.proofs.FirstFailing.{conditions_rise}
use Rattle.reader.specs.declared.Asked.{Asked}
use Rattle.reader.specs.declared.Asked.TheVariants.{WellFormed, Proper}
use Rattle.reader.specs.Reads.{format_of, ends_agree, turn_found, is_turn, turn_in, is_flipped, turned_back, telegram_in, asked_table, telegram_table, read_table, read_by}
use Rattle.reader.specs.AtTurn.{read_at_turn}
use Rattle.reader.specs.ReadsExactly.{LentWindow}
use Rattle.reader.specs.NamesBadWord.{CutFromBad, NamesBadWord}
use Rattle.reader.proofs.Steps.{format_of_lem, read_as_lem, turn_found_lem, word_refused}
use Rattle.reader.proofs.Accepted.{Placed}
use Rattle.reader.proofs.CutReads.{cut-found}
use Rattle.reader.proofs.ReadsCut.{below, found-checked, found-window}
use Rattle.reader.proofs.Exact.{said, verdict-said}
use Rattle.std.specs.Prelude.{Result, Err}
use Rattle.reader.specs.declared.Reading.{Reading}
use Rattle.refusals.specs.declared.Refusal.{Refusal}

-- the conditions that are asked for have numbers above 9
asked_rise : (asked : Asked) (format : Format) (b : List ℕ) → T (rises_above refusal_number 9 (asked_table asked format b))
unfolding rises_above
asked_rise WellFormed format b = tt
asked_rise Proper format b = conditions_rise format b 9 (omega arith)

module _ (asked : Asked) (format : Format) (w out : List ℕ) where
  -- where the table gives 9, the window passed the tests before it, and its own row applies
  refused_placed : (room : ℕ) (bad : BadWord) → verdict (read_table asked format room w) ≡ refused (NotWord bad) → let F = numbers_of format in
      Placed format w × IsFirstBad F.words (telegram_in F (turn_in F w) w) bad
  unfolding read_table telegram_table
  refused_placed room bad e =
      let F = numbers_of format in
      let b = telegram_in F (turn_in F w) w in
      let words = all_words F.words b in
      let (size, f) = later_row refusal_number tt (refused_first (read_table asked format room w) (NotWord bad) e) in
      let (bits, f) = later_row refusal_number tt f in
      let (roomy, f) = later_row refusal_number tt f in
      let (ends, f) = later_row refusal_number tt f in
      let (divided, f) = later_row refusal_number tt f in
      let (turn, f) = later_row refusal_number tt f in
      let (controlled, f) = later_row refusal_number tt f in
      let (is, some) = this_row refusal_number (asked_rise asked format b) f in (
        record {
          size = eqb-true (length w) (window_bits F) (not-false (eqb (length w) (window_bits F)) size);
          bits = not-false (all_bits w) bits;
          ends = not-false (ends_agree F w) ends;
          divided = not-false (divisible F (take F.n w)) divided;
          turn = not-false (is_turn (turn_found F w)) turn;
          controlled = not-false (same (control_of F b) control) controlled;
        },
        (first_bad_lem b F.words bad).0 (not-true words (is_true (not words) some), cc),
      )

  -- so it is cut from a telegram with that bad word
  named_cut : length w ≡ window_bits (numbers_of format) → (bad : BadWord) → read_by asked w out ≡ outcome (Err (NotWord bad)) out
      → CutFromBad format w bad
  named_cut size bad e =
      let F = numbers_of format in
      let given = sym (verdict-said asked w out) ∙ ap (λ (x : Outcome (Result Reading Refusal)). said x.answer) e in
      let (p, first) = refused_placed (length out) bad (rw (format_of_lem format w size) at given) in
      record {
        telegram = telegram_in F (turn_in F w) w;
        but_words = found-checked format w p;
        first = first;
        t = turn_in F w;
        flipped = is_flipped F (turned_back F (turn_in F w) w);
        turn = below format w p;
        window = found-window format w p;
      }

  -- and the other way
  cut_named : (numbers_of format).m ≤ length out → (bad : BadWord) → CutFromBad format w bad → read_by asked w out ≡ outcome (Err (NotWord bad)) out
  unfolding read_at_turn
  cut_named room bad c =
      let F = numbers_of format in
      let b = c.telegram in
      let found = cut-found format b c.t c.flipped c.but_words c.turn w c.window in
      let (some, is) = (first_bad_lem b F.words bad).1 c.first in
      read_as_lem asked format w out found.size
      ∙ turn_found_lem asked format w out found.size found.bits room found.ends found.divided c.t found.turn
      ∙ rw found.telegram
      (word_refused asked format c.t (is_flipped F (turned_back F c.t w)) b out (equal_same (control_of F b) control c.but_words.control_is) some)
      ∙ ap (λ (x : BadWord). outcome (Err (NotWord x)) out) is

-- its index is that of a word
pub named_below : (asked : Asked) (w out : List ℕ) (bad : BadWord) → (read_by asked w out).answer ≡ Err (NotWord bad)
    → bad.index < (numbers_of (format_of w)).words
named_below asked w out bad e = (refused_placed asked (format_of w) w out (length out) bad (sym (verdict-said asked w out) ∙ ap said e)).1.among

pub names_bad_word : (asked : Asked) (format : Format) (w out : List ℕ) → LentWindow format w out → NamesBadWord asked format w out
names_bad_word asked format w out lent =
    record { names = λ bad. (named_cut asked format w out lent.size bad, cut_named asked format w out lent.room bad) }
