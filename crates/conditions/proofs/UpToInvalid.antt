-- Words up to the last invalid one: by the last of the words; where there is an invalid one, what stands there; and where there is none, all are
-- one run. Assumes nothing.
use mathlib.Core.Path.{◌≡◌, refl, sym, ap, ◌∙◌}
use mathlib.Core.Bool.{Bool, true, false, cond}
use mathlib.Core.List.{List, ◌∷◌, ◌++◌, append_assoc}
use Prim.Native.Nat.{ℕ, zero, suc, ◌+◌, ◌*◌, ◌≤◌, ◌<◌}
use native.Mathlib.Omega.{arith}
use Rattle.bits.specs.Bits.{around}
use Rattle.words.specs.Words.{is_word}
use Rattle.conditions.specs.Runs.{valid_words, longest_after}
use Rattle.conditions.specs.UpToInvalid.{up_to_invalid}
use Rattle.conditions.proofs.Round.{valid_words-one}

module _ (p : ℕ) (b : List ℕ) where
  -- by the last of the words
  pub up_to_last : (k : ℕ) (t : Bool) → is_word (around 11 (p + 11 * k) b) ≡ t → up_to_invalid (suc k) p b ≡ cond t (up_to_invalid k p b) (suc k)
  unfolding up_to_invalid
  up_to_last k t e = ap (λ (u : Bool). cond u (up_to_invalid k p b) (suc k)) e

  -- where some word is invalid, the last such one is the word before those past it
  pub invalid_there : (k j : ℕ) → up_to_invalid k p b ≡ suc j → (j < k) × (is_word (around 11 (p + 11 * j) b) ≡ false)
  unfolding up_to_invalid
  invalid_there zero j e = absurd (omega arith)
  invalid_there (suc k) j e = go (invalid_there k j) (is_word (around 11 (p + 11 * k) b)) refl
    where
      go : (up_to_invalid k p b ≡ suc j → (j < k) × (is_word (around 11 (p + 11 * j) b) ≡ false))
          → (t : Bool) → is_word (around 11 (p + 11 * k) b) ≡ t → (j < suc k) × (is_word (around 11 (p + 11 * j) b) ≡ false)
      go before true v =
          let there = before (sym (up_to_last k true v) ∙ e) in
          (omega (arith, there.0), there.1)
      go before false v =
          let same : j ≡ k = omega (arith, up_to_last k false v, e) in
          (omega arith, rw same v)

  pub up_to_most : (k : ℕ) → up_to_invalid k p b ≤ k
  up_to_most k = go (up_to_invalid k p b) refl
    where
      go : (u : ℕ) → up_to_invalid k p b ≡ u → up_to_invalid k p b ≤ k
      go zero e = omega arith
      go (suc j) e = omega (arith, (invalid_there k j e).0)

  -- k words and y: the last of them stands before y
  last_before : (k : ℕ) (y : List Bool) → valid_words (suc k) p b ++ y ≡ valid_words k p b ++ is_word (around 11 (p + 11 * k) b) ∷ y
  unfolding valid_words
  last_before k y =
      let count : suc k ≡ k + suc 0 = omega arith in
      ap (λ (x : ℕ). valid_words x p b ++ y) count ∙ ap (λ (l : List Bool). l ++ y) (valid_words-one k 0 p b)
      ∙ append_assoc (valid_words k p b) _ y

  -- where none is, all k lengthen the run before them
  pub all_valid : (k c : ℕ) (y : List Bool) → up_to_invalid k p b ≡ 0 → longest_after c (valid_words k p b ++ y) ≡ longest_after (c + k) y
  unfolding valid_words longest_after
  all_valid zero c y e =
      let same : c + 0 ≡ c = omega arith in
      rw same
  all_valid (suc k) c y e = go (all_valid k c (true ∷ y)) (is_word (around 11 (p + 11 * k) b)) refl
    where
      go : (up_to_invalid k p b ≡ 0 → longest_after c (valid_words k p b ++ true ∷ y) ≡ longest_after (suc (c + k)) y)
          → (t : Bool) → is_word (around 11 (p + 11 * k) b) ≡ t → longest_after c (valid_words (suc k) p b ++ y) ≡ longest_after (c + suc k) y
      go before true v =
          let more : suc (c + k) ≡ c + suc k = omega arith in
          ap (longest_after c) (last_before k y ∙ ap (λ (t : Bool). valid_words k p b ++ t ∷ y) v)
          ∙ before (sym (up_to_last k true v) ∙ e) ∙ ap (λ (x : ℕ). longest_after x y) more
      go before false v = absurd (omega (arith, up_to_last k false v, e))
