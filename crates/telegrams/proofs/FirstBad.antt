-- The first word that is not in the table (document 02, No. 13): what a search for it finds, by what is known of all words; and that it is
-- bad, of its kind, and after good words only. Assumes nothing.
use mathlib.Core.Path.{◌≡◌, refl, sym, ap, subst, ◌∙◌}
use mathlib.Core.Bool.{Bool, true, false, true≢false, cond, not, ◌&&◌}
use mathlib.Core.List.{List}
use mathlib.Core.Logic.{◌↔◌}
use Prim.Native.Nat.{ℕ, zero, suc, ◌+◌, ◌*◌, ◌≤◌, ◌<◌}
use native.Mathlib.Omega.{arith}
use borrow.Author.Tests.{not-true, not-false, ltb-true, ltb-false}
use lib.Dec.{T, ltb}
use lib.ListN.{drop}
use Rattle.bits.specs.Bits.{all_bits, number_of}
use Rattle.bits.specs.Groups.{over_groups}
use Rattle.bits.specs.Search.{First, found, none, first_of, is_found, which_found}
use Rattle.bits.proofs.Groups.{every-at}
use Rattle.bits.proofs.First.{IsFirst, first_found, found_first}
use Rattle.bits.proofs.AllBits.{all_bits-drop}
use Rattle.bits.proofs.Parts.{drop_from, front_below}
use Rattle.bits.proofs.Tests.{is_true, holds, clash}
use Rattle.words.specs.declared.Kind.{Kind}
use Rattle.words.specs.declared.BadWord.{BadWord}
use Rattle.words.specs.Words.{kind_of, lookup_of, is_word}
use Rattle.words.proofs.Numbers.{lookup_kind, lookup_absent}
use Rattle.telegrams.specs.Fields.{all_words}
use Rattle.telegrams.specs.Worded.{word_at, is_bad, first_bad, bad_word_at, bad_word, worded, IsFirstBad}
use Rattle.std.specs.Prelude.{Result, Ok, Err, is_ok}

module _ (b : List ℕ) where
  -- a word has eleven bits
  pub word_below : (i : ℕ) → T (all_bits b) → number_of (word_at b i) < 2048
  word_below i h = front_below 11 (drop (11 * i) b) (all_bits-drop (11 * i) b h)

  -- a word is bad where looking it up finds its kind
  pub is_bad_by : (i : ℕ) (r : Result ℕ Kind) → lookup_of (number_of (word_at b i)) ≡ r → is_bad b i ≡ not (is_ok r)
  unfolding is_bad is_word
  is_bad_by i r e = ap (λ (r : Result ℕ Kind). not (is_ok r)) e

  -- all words from index i on are in the table where the search from there finds none
  none_bad_from : (i k : ℕ) → all_words k (drop (11 * i) b) ≡ not (is_found (first_of (is_bad b) i k))
  unfolding over_groups first_of is_bad
  none_bad_from i zero = refl
  none_bad_from i (suc k) =
      let place : 11 * i + 11 ≡ 11 * suc i = omega arith in
      rw (← drop_from (11 * i) 11 (11 * suc i) b place) (go (is_word (word_at b i)) refl (none_bad_from (suc i) k))
    where
      go : (t : Bool) → is_word (word_at b i) ≡ t → all_words k (drop (11 * suc i) b) ≡ not (is_found (first_of (is_bad b) (suc i) k))
          → is_word (word_at b i) && all_words k (drop (11 * suc i) b) ≡ not (is_found (cond (is_bad b i) (found i) (first_of (is_bad b) (suc i) k)))
      go true e next = rw (e, next) refl
      go false e next = rw e refl

  module _ (k : ℕ) where
    -- all words are in the table where the search finds none
    none_bad : all_words k b ≡ not (is_found (first_of (is_bad b) 0 k))
    none_bad = none_bad_from 0 k

    pub none_all : first_of (is_bad b) 0 k ≡ none → all_words k b ≡ true
    none_all e = none_bad ∙ ap (λ (f : First). not (is_found f)) e

    pub found_some : (j : ℕ) → first_of (is_bad b) 0 k ≡ found j → all_words k b ≡ false
    found_some j e = none_bad ∙ ap (λ (f : First). not (is_found f)) e

    -- what going through the words tells, by what the search finds
    pub none_whole : first_of (is_bad b) 0 k ≡ none → worded k b ≡ Ok (tt {0})
    unfolding worded
    none_whole e = rw (none_all e)

    pub found_not_word : (j : ℕ) → first_of (is_bad b) 0 k ≡ found j → worded k b ≡ Err (bad_word_at b j)
    unfolding worded bad_word first_bad
    found_not_word j e = rw (found_some j e, e)

    -- also where that word's kind is known by looking it up
    pub found_of_kind : (j : ℕ) (kind : Kind) → lookup_of (number_of (word_at b j)) ≡ Err kind → first_of (is_bad b) 0 k ≡ found j
        → worded k b ≡ Err (record { kind = kind; index = j })
    unfolding bad_word_at
    found_of_kind j kind is e =
        let told : kind_of (number_of (word_at b j)) ≡ kind = sym (lookup_kind _ kind is) in
        found_not_word j e ∙ ap {B = Result (Unit {0}) BadWord} (λ (known : Kind). Err (record { kind = known; index = j })) told

    -- and what is told says of all words
    pub worded_all : is_ok (worded k b) ≡ all_words k b
    unfolding worded
    worded_all = go (all_words k b)
      where
        go : (t : Bool) → is_ok (cond t (Ok (tt {0})) (Err (bad_word k b))) ≡ t
        go true = refl
        go false = refl

    pub whole_all : worded k b ≡ Ok (tt {0}) → all_words k b ≡ true
    whole_all e = sym worded_all ∙ ap is_ok e

    pub not_word_some : (bad : BadWord) → worded k b ≡ Err bad → (all_words k b ≡ false) × (bad_word k b ≡ bad)
    unfolding worded
    not_word_some bad e = go (all_words k b) e
      where
        go : (t : Bool) → cond t (Ok (tt {0})) (Err (bad_word k b)) ≡ Err bad → (t ≡ false) × (bad_word k b ≡ bad)
        go true e = clash cc
        go false e = (refl, cc)

    -- ---- what the bad word told means

    -- a word that is not in the table is found with its kind
    bad_found : (i : ℕ) → is_bad b i ≡ true → lookup_of (number_of (word_at b i)) ≡ Err (kind_of (number_of (word_at b i)))
    unfolding is_bad is_word
    bad_found i e = lookup_absent (number_of (word_at b i)) (not-true _ e)

    good_not_bad : (i : ℕ) → T (is_word (word_at b i)) → is_bad b i ≡ false
    unfolding is_bad
    good_not_bad i h = ap not (is_true (is_word (word_at b i)) h)

    pub is_first_bad : (all_words k b ≡ false) → IsFirstBad k b (bad_word k b)
    unfolding bad_word bad_word_at first_bad is_bad
    is_first_bad h = go (first_of (is_bad b) 0 k) refl
      where
        go : (f : First) → first_of (is_bad b) 0 k ≡ f → IsFirstBad k b (bad_word_at b (which_found f))
        go none e = absurd (true≢false (sym (none_all e) ∙ h))
        go (found j) e =
            let is = first_found (is_bad b) 0 k j e in
            record {
              among = omega (arith, is.below);
              found = bad_found j is.passed;
              before = λ i below. let t = is_word (word_at b i) in holds t (not-false t (is.earlier i (omega arith) below));
            }

    pub first_bad_is : (bad : BadWord) → IsFirstBad k b bad → (all_words k b ≡ false) × (bad_word k b ≡ bad)
    unfolding bad_word bad_word_at first_bad is_bad
    first_bad_is bad is =
        let j = bad.index in
        let first : IsFirst (is_bad b) 0 k j =
        record {
          from = omega arith;
          below = omega (arith, is.among);
          passed = is_bad_by j (Err bad.kind) is.found;
          earlier = λ i from below. good_not_bad i (is.before i below);
        } in
        let e = found_first (is_bad b) 0 k j first in
        let kind : kind_of (number_of (word_at b j)) ≡ bad.kind = sym (lookup_kind _ bad.kind is.found) in
        (found_some j e, rw (e, kind) refl)

    -- the first bad word comes after words that are all in the table
    pub first_bad_after : (j : ℕ) → T (all_words j b) → (bad : BadWord) → IsFirstBad k b bad → j ≤ bad.index
    first_bad_after j good bad is = go (ltb bad.index j) refl
      where
        go : (t : Bool) → ltb bad.index j ≡ t → j ≤ bad.index
        go false e = ltb-false bad.index j e
        go true e =
            let within = ltb-true bad.index j e in
            let word = every-at is_word 11 j b good bad.index within in
            absurd (true≢false (sym (is_bad_by bad.index (Err bad.kind) is.found) ∙ good_not_bad bad.index word))

    -- refusal 9's bad word is the first word that is not in the table, and its kind that word's
    pub first_bad_lem : (bad : BadWord) → ((all_words k b ≡ false) × (bad_word k b ≡ bad)) ↔ IsFirstBad k b bad
    first_bad_lem bad = (λ (some, is). subst (IsFirstBad k b) is (is_first_bad some), first_bad_is bad)
