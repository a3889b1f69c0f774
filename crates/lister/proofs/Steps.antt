-- What asking for the next proper pair answers, by the tests and the search (document 02, No. 9). Assumes nothing.
use mathlib.Core.Path.{◌≡◌, sym, ap, ap₂, subst, ◌∙◌}
use mathlib.Core.List.{List, ◌++◌}
use Prim.Native.Nat.{ℕ, ◌+◌, ◌*◌, ◌<◌}
use lib.ListN.{length, drop}
use Rattle.bits.specs.Search.{First, found, none}
use Rattle.formats.specs.declared.format.Format.{Format}
use Rattle.formats.specs.Numbers.{numbers_of}
use Rattle.refusals.specs.declared.Refusal.{Refusal}
use Rattle.refusals.specs.Table.{Verdict, refused, accepted, verdict, outcome_by}
use Rattle.refusals.specs.Outcome.{outcome}
use Rattle.encoder.proofs.Pairs.{pair_scrambling, pair_shaping, pair_telegram}
use Rattle.quick_encoder.specs.PairFrom.{pair_from}
use Rattle.maker.specs.Making.{format_of}
use Rattle.maker.specs.Makes.{InOrder}
use Rattle.maker.specs.PairTests.{pair_table}
use Rattle.maker.proofs.PairTests.{picked, in_order_accepted}
use Rattle.lister.specs.Listing.{listed, listed_with, next_as, next_of}
use Rattle.lister.specs.Lists.{wrote_next}
use Rattle.lister.specs.declared.Listed.{Listed}
use Rattle.std.specs.Prelude.{Some, None, Ok, Err}

-- ---- the tests

module _ (u : List ℕ) (B esb : ℕ) (out : List ℕ) where
  pub by_verdict : (v : Verdict Refusal) → verdict (pair_table (format_of u) (length out) u B esb) ≡ v
      → next_of u B esb out ≡ outcome_by Err out (listed (format_of u) u out (pair_from (format_of u) u (1024 * B + esb))) v
  unfolding next_of next_as
  by_verdict v e = rw e

  -- a refusal of the tests is that of the call
  pub tests_refuse : (r : Refusal) → verdict (pair_table (format_of u) (length out) u B esb) ≡ refused r → next_of u B esb out ≡ outcome (Err r) out
  tests_refuse r e = by_verdict (refused r) e

-- ---- the search

-- equal answers are of equal parts
pub same_listed : (f : Format) (B esb : ℕ) (g : Format) (C e : ℕ)
    → listed_with f B esb ≡ listed_with g C e → (f ≡ g) × (B ≡ C) × (esb ≡ e)
same_listed f B esb g C e is = (
  ap (λ (x : Listed). x.format) is,
  ap (λ (x : Listed). x.pair.scrambling) is,
  ap (λ (x : Listed). x.pair.shaping) is,
)

-- pair C, e is found
pub pair_listed : (format : Format) (u out : List ℕ) (C e : ℕ) → e < 1024 → listed format u out (found (1024 * C + e)) ≡ wrote_next format u out C e
pair_listed format u out C e small =
    ap₂ outcome (ap₂ (λ D d. Ok (Some (listed_with format D d))) (pair_scrambling C e small) (pair_shaping C e small))
    (ap (λ (t : List ℕ). t ++ drop (numbers_of format).n out) (pair_telegram C e small format u))

module _ (format : Format) (u : List ℕ) (B esb : ℕ) (out : List ℕ) (in_order : InOrder format u B esb out) where
  -- the tests pass: the search decides
  pub next_is : (first : First) → pair_from format u (1024 * B + esb) ≡ first → next_of u B esb out ≡ listed format u out first
  next_is first e =
      let is = picked format u B esb (length out) in_order.size in
      let decides = subst (λ (f : Format). verdict (pair_table f (length out) u B esb) ≡ accepted) is (in_order_accepted format u B esb out in_order) in
      by_verdict u B esb out accepted decides
      ∙ ap (λ (f : Format). listed f u out (pair_from f u (1024 * B + esb))) (sym is)
      ∙ ap (listed format u out) e

  pub pair_given : (C e : ℕ) → e < 1024 → pair_from format u (1024 * B + esb) ≡ found (1024 * C + e) → next_of u B esb out ≡ wrote_next format u out C e
  pair_given C e small is = next_is (found (1024 * C + e)) is ∙ pair_listed format u out C e small

  pub none_given : pair_from format u (1024 * B + esb) ≡ none → next_of u B esb out ≡ outcome (Ok None) out
  none_given is = next_is none is
