-- The bits of a ring from any place on stand in its bits written twice; and which of its words are valid. Assumes nothing.
use mathlib.Core.Path.{◌≡◌, refl, sym, ap, ap₂, ◌∙◌}
use mathlib.Core.Bool.{Bool}
use mathlib.Core.List.{List, [], ◌∷◌, ◌++◌}
use Prim.Native.Nat.{ℕ, zero, suc, ◌+◌, ◌-◌, ◌*◌, ◌/◌, ◌%◌, ◌≤◌, ◌<◌}
use native.Mathlib.Nat.{mod-eq_of_lt, add-mod_right, mod-lt}
use native.Mathlib.Decide.{dec_lt}
use native.Mathlib.Omega.{arith}
use lib.Dec.{T, eqb}
use lib.ListN.{length, get_or, take, drop, length-append, length-take, length-drop, get_or-append}
use lib.Seq.{ext_get_or, get_or-take, get_or-drop, get_or-append-add}
use Rattle.bits.specs.Bits.{all_bits, number_of, around}
use Rattle.bits.proofs.AllBits.{all_bits-append, all_bits-drop}
use Rattle.bits.proofs.Parts.{front_below, drop_from}
use Rattle.bits.proofs.Ring.{length-around, get_or-around}
use Rattle.words.specs.PartsOf64.{present}
use Rattle.words.specs.Words.{is_word}
use Rattle.words.proofs.Ranks.{bit_at, bit_tells}
use Rattle.conditions.specs.Runs.{valid_words}
use Rattle.conditions.proofs.Round.{around-mod, valid_words-mod}

-- whether the word w is in the table, by its bit in the parts of 64
abbrev pub known : ℕ → Bool
known w = eqb (bit_at (get_or present (w / 64) 0) w) 1

-- of the next k words of s, which are in the table
unfoldable pub valid_in : ℕ → List ℕ → List Bool
valid_in zero s = []
valid_in (suc k) s = known (number_of (take 11 s)) ∷ valid_in k (drop 11 s)

-- the bits of b written twice, from the place p of its ring on; b has n
abbrev pub twice_from : ℕ → ℕ → List ℕ → List ℕ
twice_from n p twice = drop (p % n) twice

module _ (b : List ℕ) where
  -- the bit at a place counted round the ring
  get_or_twice : (i : ℕ) → i < length b + length b → get_or b (i % length b) 0 ≡ get_or (b ++ b) i 0
  get_or_twice i h = go (dec_lt i (length b))
    where
      go : Dec (i < length b) → get_or b (i % length b) 0 ≡ get_or (b ++ b) i 0
      go (yes inside) = ap (λ (x : ℕ). get_or b x 0) (mod-eq_of_lt inside) ∙ sym (get_or-append b b 0 i inside)
      go (no past) =
          let j = i - length b in
          let second : i ≡ j + length b = omega arith in
          let small : j < length b = omega arith in
          let here : length b + j ≡ i = omega arith in
          ap (λ (x : ℕ). get_or b x 0) (ap (λ (x : ℕ). x % length b) second ∙ add-mod_right j (length b) ∙ mod-eq_of_lt small)
          ∙ sym (get_or-append-add b b j 0) ∙ ap (λ (x : ℕ). get_or (b ++ b) x 0) here

  around_twice : (k p : ℕ) → p + k ≤ length b + length b → around k p b ≡ take k (drop p (b ++ b))
  around_twice k p h =
      let size : length (around k p b) ≡ length (take k (drop p (b ++ b))) = length-around k p b ∙ simp (length-take, length-drop, length-append) (omega arith) in
      ext_get_or 0 (around k p b) (take k (drop p (b ++ b))) size λ i below.
      let ik : i < k = omega (arith, length-around k p b) in
      get_or-around k p b i ik ∙ get_or_twice (p + i) (omega arith) ∙ sym (get_or-take k (drop p (b ++ b)) i 0 ik ∙ get_or-drop p (b ++ b) i 0)

  known_is : T (all_bits b) → (p : ℕ) → known (number_of (take 11 (drop p (b ++ b)))) ≡ is_word (take 11 (drop p (b ++ b)))
  unfolding is_word
  known_is bits p =
      let s = drop p (b ++ b) in
      bit_tells (number_of (take 11 s)) _ (front_below 11 s (all_bits-drop p (b ++ b) (all_bits-append b b bits bits))) refl

  valid_twice : T (all_bits b) → (k p : ℕ) → p + 11 * k ≤ length b + length b → valid_words k p b ≡ valid_in k (drop p (b ++ b))
  unfolding valid_words valid_in
  valid_twice bits zero p h = refl
  valid_twice bits (suc k) p h =
      ap₂ (λ (x : Bool) (l : List Bool). x ∷ l)
      (ap is_word (around_twice 11 p (omega arith)) ∙ sym (known_is bits p))
      (valid_twice bits k (p + 11) (omega arith) ∙ ap (valid_in k) (drop_from p 11 (p + 11) (b ++ b) refl))

  module _ (n : ℕ) (size : length b ≡ n) (some : 0 < n) where
    -- k bits from any place of the ring on
    pub around_from : (k p : ℕ) → k ≤ n → around k p b ≡ take k (twice_from n p (b ++ b))
    around_from k p h =
        sym (around-mod k p b) ∙ ap (λ (m : ℕ). around k (p % m) b) size
        ∙ around_twice k (p % n) (omega (arith, mod-lt p some, size))

    -- k words from any place of the ring on
    pub valid_from : T (all_bits b) → (k p : ℕ) → 11 * k ≤ n → valid_words k p b ≡ valid_in k (twice_from n p (b ++ b))
    valid_from bits k p h =
        sym (valid_words-mod k p b) ∙ ap (λ (m : ℕ). valid_words k (p % m) b) size
        ∙ valid_twice bits k (p % n) (omega (arith, mod-lt p some, size))
