-- Where the tests pass, next gives exactly the first proper pair at or after the given one, with its telegram over the front of the output, or says
-- that there are no more exactly where there is none (document 02, No. 9). Assumes nothing.
use mathlib.Core.Path.{◌≡◌, refl, sym, ap, subst₂, ◌∙◌}
use mathlib.Core.List.{List}
use mathlib.Core.Logic.{◌↔◌, ◌⊎◌, inl, inr}
use Prim.Native.Nat.{ℕ, ◌+◌, ◌*◌, ◌/◌, ◌%◌}
use Rattle.bits.specs.Search.{First, found, none}
use Rattle.bits.proofs.Tests.{clash}
use Rattle.formats.specs.declared.format.Format.{Format}
use Rattle.refusals.specs.Outcome.{Outcome, outcome}
use Rattle.encoder.specs.FirstPair.{ProperFrom, NoneProperFrom}
use Rattle.encoder.proofs.ProperFrom.{found_from, from_found, missing_from}
use Rattle.quick_encoder.specs.PairFrom.{pair_from}
use Rattle.maker.specs.Makes.{InOrder}
use Rattle.lister.specs.Listing.{next_of, listed_with}
use Rattle.lister.specs.Lists.{wrote_next}
use Rattle.lister.proofs.Steps.{same_listed, pair_given, none_given}
use Rattle.std.specs.Prelude.{Option, Result, Some, None, Ok}
use Rattle.lister.specs.declared.Listed.{Listed}
use Rattle.refusals.specs.declared.Refusal.{Refusal}

-- ---- the search from a place on

module _ (format : Format) (u : List ℕ) (s : ℕ) where
  found-next : (p : ℕ) → pair_from format u s ≡ found p → ProperFrom format u s (p / 1024) (p % 1024)
  unfolding pair_from
  found-next p e = found_from format u s p e

  next-found : (C e : ℕ) → ProperFrom format u s C e → pair_from format u s ≡ found (1024 * C + e)
  unfolding pair_from
  next-found C e f = from_found format u s C e f

  none-next : pair_from format u s ≡ none → NoneProperFrom format u s
  unfolding pair_from
  none-next e = missing_from format u s e

-- ---- what is answered

-- the next proper pair, or no more where there is none
abbrev NextOrNone : Format → List ℕ → ℕ → ℕ → List ℕ → Type 0
NextOrNone format u B esb out =
    ((C : ℕ) × (e : ℕ) × ProperFrom format u (1024 * B + esb) C e × (next_of u B esb out ≡ wrote_next format u out C e))
    ⊎ (NoneProperFrom format u (1024 * B + esb) × (next_of u B esb out ≡ outcome (Ok None) out))

module _ (format : Format) (u : List ℕ) (B esb : ℕ) (out : List ℕ) (in_order : InOrder format u B esb out) where
  next_answered : (C e : ℕ) → ProperFrom format u (1024 * B + esb) C e → next_of u B esb out ≡ wrote_next format u out C e
  next_answered C e f = pair_given format u B esb out in_order C e f.shaping (next-found format u (1024 * B + esb) C e f)

  pub next_or_none_lem : NextOrNone format u B esb out
  next_or_none_lem = go (pair_from format u (1024 * B + esb)) refl
    where
      go : (first : First) → pair_from format u (1024 * B + esb) ≡ first → NextOrNone format u B esb out
      go (found p) e =
          let f = found-next format u (1024 * B + esb) p e in
          inl (p / 1024, p % 1024, f, next_answered (p / 1024) (p % 1024) f)
      go none e =
          inr (none-next format u (1024 * B + esb) e, none_given format u B esb out in_order e)

  -- a pair that is answered is the next that is proper, and its telegram is written
  pub answered_next : (C e : ℕ) → (next_of u B esb out).answer ≡ Ok (Some (listed_with format C e))
      → ProperFrom format u (1024 * B + esb) C e × (next_of u B esb out ≡ wrote_next format u out C e)
  answered_next C e is = go next_or_none_lem
    where
      go : NextOrNone format u B esb out → ProperFrom format u (1024 * B + esb) C e × (next_of u B esb out ≡ wrote_next format u out C e)
      go (inl (D, d, f, whole)) =
          let answers = sym (ap (λ (y : Outcome (Result (Option Listed) Refusal)). y.answer) whole) ∙ is in
          let same = same_listed format D d format C e cc in
          (subst₂ (ProperFrom format u (1024 * B + esb)) same.1 same.2 f, cc)
      go (inr (missing, whole)) =
          let answers = sym (ap (λ (y : Outcome (Result (Option Listed) Refusal)). y.answer) whole) ∙ is in
          clash cc

  pub gives_next_lem : (C e : ℕ) → (next_of u B esb out ≡ wrote_next format u out C e) ↔ ProperFrom format u (1024 * B + esb) C e
  gives_next_lem C e = (λ is. (answered_next C e (ap (λ (y : Outcome (Result (Option Listed) Refusal)). y.answer) is)).0, next_answered C e)

  pub says_no_more_lem : (next_of u B esb out ≡ outcome (Ok None) out) ↔ NoneProperFrom format u (1024 * B + esb)
  says_no_more_lem = go next_or_none_lem
    where
      go : NextOrNone format u B esb out → (next_of u B esb out ≡ outcome (Ok None) out) ↔ NoneProperFrom format u (1024 * B + esb)
      go (inl (C, e, f, whole)) = (
        λ is. let answers = ap (λ (y : Outcome (Result (Option Listed) Refusal)). y.answer) (sym whole ∙ is) in clash cc,
        λ missing. absurd (missing C e f.scrambling f.shaping f.from f.proper_pair),
      )
      go (inr (missing, whole)) = (λ is. missing, λ h. whole)
