-- What asking for the next proper pair means. Assumes nothing.
use Prim.Native.Nat.{ℕ, ◌+◌, ◌*◌, ◌/◌, ◌%◌, ◌<◌}
use mathlib.Core.Path.{◌≡◌, refl, sym, ap, subst, ◌∙◌}
use mathlib.Core.List.{List}
use lib.ListN.{length}
use Rattle.bits.specs.Search.{First, found, none}
use Rattle.bits.proofs.Tests.{clash}
use Rattle.formats.specs.declared.format.Format.{Format}
use Rattle.formats.specs.Numbers.{numbers_of}
use Rattle.formats.proofs.Sizes.{sizes_of}
use Rattle.refusals.specs.declared.Refusal.{Refusal}
use Rattle.refusals.specs.Table.{Verdict, refused, accepted, verdict}
use Rattle.refusals.specs.Outcome.{Outcome, FrontWritten}
use Rattle.refusals.proofs.Table.{answer_by_lem, answer_said, refuses_in_order}
use Rattle.refusals.proofs.Fronts.{front-written}
use Rattle.cyclic.proofs.Formats.{facts_of}
use Rattle.telegrams.specs.Telegram.{telegram_of}
use Rattle.telegrams.proofs.Made.{length_made}
use Rattle.quick_encoder.specs.PairFrom.{pair_from}
use Rattle.maker.specs.Making.{format_of}
use Rattle.maker.specs.Makes.{InOrder}
use Rattle.maker.specs.PairTests.{pair_table}
use Rattle.maker.proofs.PairTests.{accepted_in_order}
use Rattle.lister.specs.Listing.{listed, next_of, listed_with}
use Rattle.lister.specs.Lists.{NextAnswers, NextExactly}
use Rattle.lister.proofs.Steps.{by_verdict, tests_refuse, same_listed}
use Rattle.lister.proofs.NextOrNone.{next_or_none_lem, answered_next, gives_next_lem, says_no_more_lem}
use Rattle.std.specs.Prelude.{Option, Result, Some, None, Ok, Err}
use Rattle.lister.specs.declared.Listed.{Listed}

-- the verdict that an answer tells
abbrev said : Result (Option Listed) Refusal → Verdict Refusal
said (Err r) = refused r
said (Ok (Some next)) = accepted
said (Ok None) = accepted

-- only a refusal tells that it is one
only : (a : Result (Option Listed) Refusal) (r : Refusal) → said a ≡ refused r → a ≡ Err r
only (Err q) r e = cc
only (Ok (Some next)) r e = clash cc
only (Ok None) r e = clash cc

module _ (u : List ℕ) (B esb : ℕ) (out : List ℕ) where
  abbrev table : Verdict Refusal
  table = verdict (pair_table (format_of u) (length out) u B esb)

  tells : said (next_of u B esb out).answer ≡ table
  tells =
      let next = listed (format_of u) u out (pair_from (format_of u) u (1024 * B + esb)) in
      ap (λ (x : Outcome (Result (Option Listed) Refusal)). said x.answer) (by_verdict u B esb out table refl) ∙ ap said (answer_by_lem Err out next table)
      ∙ answer_said Err said (λ r. refl) next.answer (listed-accepts (pair_from (format_of u) u (1024 * B + esb))) table
    where
      listed-accepts : (first : First) → said (listed (format_of u) u out first).answer ≡ accepted
      listed-accepts (found p) = refl
      listed-accepts none = refl

  -- what is not refused is in order
  not_refused : (a : Result (Option Listed) Refusal) → (next_of u B esb out).answer ≡ a → said a ≡ accepted → InOrder (format_of u) u B esb out
  not_refused a e accepts = accepted_in_order (format_of u) u B esb out (sym tells ∙ ap said e ∙ accepts)

  -- ---- an answer that is a pair

  -- the format is that which the block's length picks
  pub pair_format : (format : Format) (C e : ℕ) → (next_of u B esb out).answer ≡ Ok (Some (listed_with format C e)) → format_of u ≡ format
  pair_format format C e is =
      let accepts = sym tells ∙ ap said is in
      go (pair_from (format_of u) u (1024 * B + esb)) (sym (ap (λ (x : Outcome (Result (Option Listed) Refusal)). x.answer) (by_verdict u B esb out accepted accepts)) ∙ is)
    where
      go : (first : First) → (listed (format_of u) u out first).answer ≡ Ok (Some (listed_with format C e)) → format_of u ≡ format
      go (found p) given = (same_listed (format_of u) (p / 1024) (p % 1024) format C e cc).0
      go none given = clash cc

  pub pair_in_order : (format : Format) (C e : ℕ) → (next_of u B esb out).answer ≡ Ok (Some (listed_with format C e)) → InOrder format u B esb out
  pair_in_order format C e is = subst (λ (f : Format). InOrder f u B esb out) (pair_format format C e is) (not_refused (Ok (Some (listed_with format C e))) is refl)

  pub next_pair_small : (format : Format) (C e : ℕ) → (next_of u B esb out).answer ≡ Ok (Some (listed_with format C e)) → (C < 4096) × (e < 1024)
  next_pair_small format C e is =
      let f = (answered_next format u B esb out (pair_in_order format C e is) C e is).0 in
      (f.scrambling, f.shaping)

  -- its telegram stands over the front of the output
  written-front : (format : Format) (C e : ℕ) → (next_of u B esb out).answer ≡ Ok (Some (listed_with format C e)) → FrontWritten (numbers_of format).n out (next_of u B esb out).output
  written-front format C e is =
      let F = numbers_of format in
      let in_order = pair_in_order format C e is in
      let whole = (answered_next format u B esb out in_order C e is).1 in
      subst (λ (x : Outcome (Result (Option Listed) Refusal)). FrontWritten F.n out x.output) (sym whole)
      (front-written F.n (telegram_of F u C e) out (length_made F (facts_of format) (sizes_of format) u C e) in_order.room)

  -- ---- no more

  kept_at_end : (next_of u B esb out).answer ≡ Ok None → (next_of u B esb out).output ≡ out
  kept_at_end is =
      let accepts = sym tells ∙ ap said is in
      let whole = by_verdict u B esb out accepted accepts in
      ap (λ (x : Outcome (Result (Option Listed) Refusal)). x.output) whole ∙ go (pair_from (format_of u) u (1024 * B + esb)) (sym (ap (λ (x : Outcome (Result (Option Listed) Refusal)). x.answer) whole) ∙ is)
    where
      go : (first : First) → (listed (format_of u) u out first).answer ≡ Ok None → (listed (format_of u) u out first).output ≡ out
      go (found p) e = clash cc
      go none e = refl

  pub next-answers : NextAnswers u B esb out
  next-answers =
      record {
        refuses = refuses_in_order Err said (λ r. refl) only (pair_table (format_of u) (length out) u B esb) (next_of u B esb out).answer tells;
        keeps = λ r is. ap (λ (x : Outcome (Result (Option Listed) Refusal)). x.output) (tests_refuse u B esb out r (sym tells ∙ ap said is));
        keeps_at_end = kept_at_end;
        writes = written-front;
      }

pub next_exactly : (format : Format) (u : List ℕ) (B esb : ℕ) (out : List ℕ) → InOrder format u B esb out → NextExactly format u B esb out
next_exactly format u B esb out in_order =
    record {
      gives_next = gives_next_lem format u B esb out in_order;
      says_no_more = says_no_more_lem format u B esb out in_order;
      next_or_none = next_or_none_lem format u B esb out in_order;
    }
