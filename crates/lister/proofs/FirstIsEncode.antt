-- The first pair of a listing is encode's: from 0, 0 on next gives what encode gives, for every block and every output (document 02, No. 9).
-- Assumes nothing.
use mathlib.Core.Path.{◌≡◌, refl, sym, ap, ◌∙◌}
use mathlib.Core.Bool.{not}
use mathlib.Core.List.{List, [], ◌∷◌}
use Prim.Native.Nat.{ℕ, ◌+◌, ◌*◌, ◌/◌, ◌%◌, ◌<◌}
use native.Mathlib.Omega.{arith}
use lib.Dec.{eqb, leb}
use lib.ListN.{length}
use Rattle.bits.specs.Bits.{all_bits}
use Rattle.bits.specs.Search.{First, found, none, is_found}
use Rattle.formats.specs.declared.format.Format.{Format}
use Rattle.formats.specs.Numbers.{numbers_of}
use Rattle.refusals.specs.declared.Refusal.{Refusal}
use Rattle.refusals.specs.declared.Refusal.TheVariants.{Length, NotBit, OutputShort, NoPair}
use Rattle.refusals.specs.Table.{Row, ◌when◌, Verdict, refused, accepted, verdict, answer_by}
use Rattle.refusals.specs.Outcome.{Outcome, outcome}
use Rattle.refusals.proofs.Table.{verdict_more}
use Rattle.encoder.specs.Encoding.{format_of, encode_table, first_pair, encode_of}
use Rattle.encoder.proofs.Steps as encoding
use Rattle.quick_encoder.proofs.OneScrambling.{from_the_first}
use Rattle.maker.specs.Makes.{InOrder}
use Rattle.maker.specs.PairTests.{pair_table}
use Rattle.maker.proofs.PairTests.{accepted_in_order}
use Rattle.lister.specs.Listing.{next_of}
use Rattle.lister.specs.Lists.{as_encoded, FirstIsEncode}
use Rattle.lister.proofs.Steps.{tests_refuse, pair_given, none_given}
use Rattle.std.specs.Prelude.{Option, Result}
use Rattle.lister.specs.declared.Listed.{Listed}

-- ---- the tables

-- encode's rows before the search
abbrev encode_tests : Format → ℕ → List ℕ → List (Row Refusal)
encode_tests format room u =
    let F = numbers_of format in
    Length when not (eqb (length u) F.m) ∷ NotBit when not (all_bits u) ∷ OutputShort when not (leb F.n room) ∷ []

abbrev search_row : Format → List ℕ → Row Refusal
search_row format u = NoPair when not (is_found (first_pair format u))

-- from 0, 0 on next has the tests of encode: 27 does not apply
same_tests : (format : Format) (room : ℕ) (u : List ℕ) → verdict (encode_tests format room u) ≡ verdict (pair_table format room u 0 0)
unfolding verdict pair_table
same_tests format room u = refl

tests_then_search : (format : Format) (room : ℕ) (u : List ℕ)
    → verdict (encode_table format room u) ≡ answer_by refused (verdict (search_row format u ∷ [])) (verdict (pair_table format room u 0 0))
unfolding encode_table
tests_then_search format room u =
    verdict_more (encode_tests format room u) (search_row format u ∷ [])
    ∙ ap (answer_by refused (verdict (search_row format u ∷ []))) (same_tests format room u)

-- ---- the answers

module _ (u out : List ℕ) where
  -- what encode gives is what an outcome of next stands for
  abbrev Agrees : Outcome (Result (Option Listed) Refusal) → Type 0
  Agrees first = encode_of u out ≡ outcome (as_encoded first.answer) first.output

  by_outcome : (first : Outcome (Result (Option Listed) Refusal)) → next_of u 0 0 out ≡ first → Agrees first → FirstIsEncode u out
  by_outcome first e agrees = agrees ∙ ap (λ (o : Outcome (Result (Option Listed) Refusal)). outcome (as_encoded o.answer) o.output) (sym e)

  refused_alike_lem : (r : Refusal) → verdict (pair_table (format_of u) (length out) u 0 0) ≡ refused r → FirstIsEncode u out
  refused_alike_lem r e =
      by_outcome _ (tests_refuse u 0 0 out r e)
      (encoding.kept u out r
      (tests_then_search (format_of u) (length out) u ∙ ap (answer_by refused (verdict (search_row (format_of u) u ∷ []))) e))

  searched_alike : InOrder (format_of u) u 0 0 out → (first : First) → first_pair (format_of u) u ≡ first → FirstIsEncode u out
  searched_alike h none e =
      by_outcome _ (none_given (format_of u) u 0 0 out h (from_the_first (format_of u) u ∙ e))
      (encoding.none_refused (format_of u) u out record { bits = h.bits; size = h.size; room = h.room } e)
  searched_alike h (found p) e =
      let place : p ≡ 1024 * (p / 1024) + p % 1024 = omega arith in
      let is = e ∙ ap found place in
      let small : p % 1024 < 1024 = omega arith in
      by_outcome _ (pair_given (format_of u) u 0 0 out h (p / 1024) (p % 1024) small (from_the_first (format_of u) u ∙ is))
      (encoding.pair_given (format_of u) u out record { bits = h.bits; size = h.size; room = h.room } (p / 1024) (p % 1024) small is)

  pub first_is_encode : FirstIsEncode u out
  first_is_encode = go (verdict (pair_table (format_of u) (length out) u 0 0)) refl
    where
      go : (v : Verdict Refusal) → verdict (pair_table (format_of u) (length out) u 0 0) ≡ v → FirstIsEncode u out
      go (refused r) e = refused_alike_lem r e
      go accepted e = searched_alike (accepted_in_order (format_of u) u 0 0 out e) (first_pair (format_of u) u) refl
