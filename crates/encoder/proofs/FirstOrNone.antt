-- Lent bits and room, encoding gives exactly the first pair in counting order whose telegram is proper, with its count and its telegram over
-- the front of the output, or refusal 4 exactly when no pair's telegram is proper (the request, demand 2). Assumes nothing.
use mathlib.Core.Path.{◌≡◌, refl, sym, ap, subst₂, ◌∙◌}
use mathlib.Core.List.{List}
use mathlib.Core.Logic.{◌↔◌, ◌⊎◌, inl, inr}
use Prim.Native.Nat.{ℕ, ◌+◌, ◌*◌, ◌/◌, ◌%◌, ◌<◌}
use native.Mathlib.Omega.{arith}
use Rattle.bits.specs.Search.{First, found, none}
use Rattle.bits.proofs.Tests.{clash}
use Rattle.formats.specs.declared.format.Format.{Format}
use Rattle.refusals.specs.Outcome.{Outcome}
use Rattle.encoder.specs.Encoding.{first_pair, encode_of, encoded_with}
use Rattle.encoder.specs.FirstPair.{ProperPair, FirstProper, NoneProper}
use Rattle.encoder.specs.Encodes.{CleanBlock, wrote_pair, found_none}
use Rattle.encoder.proofs.ProperFrom.{found_from, from_found, missing_from}
use Rattle.encoder.proofs.Steps.{none_refused, pair_given, same_encoded}
use Rattle.std.specs.Prelude.{Result, Ok}
use Rattle.encoder.specs.declared.Encoded.{Encoded}
use Rattle.refusals.specs.declared.Refusal.{Refusal}

-- ---- the first pair

module _ (format : Format) (u : List ℕ) where
  -- the first place that passes is the first proper pair
  found-proper : (p : ℕ) → first_pair format u ≡ found p → FirstProper format u (p / 1024) (p % 1024)
  unfolding first_pair
  found-proper p e =
      let f = found_from format u 0 p e in
      record {
        scrambling = f.scrambling;
        shaping = f.shaping;
        proper_pair = f.proper_pair;
        none_before = λ C e small before. f.none_between C e small (omega arith) before;
      }

  -- and the first proper pair is the first place that passes
  proper-found : (B esb : ℕ) → FirstProper format u B esb → first_pair format u ≡ found (1024 * B + esb)
  unfolding first_pair
  proper-found B esb f =
      from_found format u 0 B esb
      record {
        scrambling = f.scrambling;
        shaping = f.shaping;
        from = omega arith;
        proper_pair = f.proper_pair;
        none_between = λ C e small from before. f.none_before C e small before;
      }

  -- where none passes none is proper
  missing_proper : first_pair format u ≡ none → NoneProper format u
  unfolding first_pair
  missing_proper e B esb small below = missing_from format u 0 e B esb small below (omega arith)

  -- where some pair is proper there is a first one
  pub first_of_some : (B esb : ℕ) → B < 4096 → esb < 1024 → ProperPair format u B esb → (C : ℕ) × (e : ℕ) × FirstProper format u C e
  first_of_some B esb small below h = go (first_pair format u) refl
    where
      go : (a : First) → first_pair format u ≡ a → (C : ℕ) × (e : ℕ) × FirstProper format u C e
      go (found p) e = (p / 1024, p % 1024, found-proper p e)
      go none e = absurd (missing_proper e B esb small below h)

-- ---- what encoding answers

-- the first proper pair, or refusal 4 where there is none
abbrev FirstOrNone : Format → List ℕ → List ℕ → Type 0
FirstOrNone format u out =
    ((B : ℕ) × (esb : ℕ) × FirstProper format u B esb × (encode_of u out ≡ wrote_pair format u out B esb))
    ⊎ (NoneProper format u × (encode_of u out ≡ found_none out))

module _ (format : Format) (u out : List ℕ) (clean : CleanBlock format u out) where
  pub first_answered : (B esb : ℕ) → FirstProper format u B esb → encode_of u out ≡ wrote_pair format u out B esb
  first_answered B esb f =
      pair_given format u out clean B esb f.shaping (proper-found format u B esb f)

  pub first_or_none_lem : FirstOrNone format u out
  first_or_none_lem = go (first_pair format u) refl
    where
      go : (a : First) → first_pair format u ≡ a → FirstOrNone format u out
      go (found p) e =
          let f = found-proper format u p e in
          inl (p / 1024, p % 1024, f, first_answered (p / 1024) (p % 1024) f)
      go none e =
          inr (missing_proper format u e, none_refused format u out clean e)

  -- a pair that is answered is the first that is proper, with its count and its telegram
  pub answered_first : (B esb tried : ℕ) → (encode_of u out).answer ≡ Ok (encoded_with format B esb tried)
      → FirstProper format u B esb × (tried ≡ 1024 * B + esb + 1) × (encode_of u out ≡ wrote_pair format u out B esb)
  answered_first B esb tried e = go first_or_none_lem
    where
      go : FirstOrNone format u out
          → FirstProper format u B esb × (tried ≡ 1024 * B + esb + 1) × (encode_of u out ≡ wrote_pair format u out B esb)
      go (inl (C, s, f, whole)) =
          let answers = sym (ap (λ (y : Outcome (Result Encoded Refusal)). y.answer) whole) ∙ e in
          let same = same_encoded format C s (1024 * C + s + 1) format B esb tried cc in
          (subst₂ (FirstProper format u) same.1 same.2 f, cc, cc)
      go (inr (missing, whole)) =
          let answers = sym (ap (λ (y : Outcome (Result Encoded Refusal)). y.answer) whole) ∙ e in
          clash cc

  -- the answer is the pair B, esb exactly when it is the first proper pair
  pub gives_first_lem : (B esb : ℕ) → (encode_of u out ≡ wrote_pair format u out B esb) ↔ FirstProper format u B esb
  gives_first_lem B esb = (
    λ e. (answered_first B esb (1024 * B + esb + 1) (ap (λ (y : Outcome (Result Encoded Refusal)). y.answer) e)).0,
    first_answered B esb,
  )

  -- it is refusal 4 exactly when no pair is proper
  pub says_none_lem : (encode_of u out ≡ found_none out) ↔ NoneProper format u
  says_none_lem = go first_or_none_lem
    where
      go : FirstOrNone format u out → (encode_of u out ≡ found_none out) ↔ NoneProper format u
      go (inl (B, esb, f, whole)) = (
        λ e. let answers = ap (λ (y : Outcome (Result Encoded Refusal)). y.answer) (sym whole ∙ e) in clash cc,
        λ missing. absurd (missing B esb f.scrambling f.shaping f.proper_pair),
      )
      go (inr (missing, whole)) = (λ e. missing, λ h. whole)
