-- Pairs that agree: one more in front of a row of them, a row behind it, and that the ends of a window agree exactly where its r pairs do. Assumes nothing.
use mathlib.Core.Path.{◌≡◌, refl, sym, ap, subst, ◌∙◌}
use mathlib.Core.Bool.{Bool, true, false}
use mathlib.Core.List.{List}
use mathlib.Core.Logic.{⊎_elim}
use Prim.Native.Nat.{ℕ, ◌+◌, ◌-◌, ◌≤◌, ◌<◌}
use native.Mathlib.Nat.{eq-or-lt_of_le}
use native.Mathlib.Omega.{arith}
use borrow.Author.Tests.{ltb-true, ltb-false}
use lib.Dec.{ltb, lit<}
use lib.ListN.{length, get_or, take, drop, length-drop}
use lib.Seq.{length-take-le, get_or-take, get_or-drop, ext_get_or}
use Rattle.formats.specs.declared.format.Format.{Format}
use Rattle.formats.specs.declared.format.Format.TheVariants.{Long, Short}
use Rattle.formats.specs.Numbers.{numbers_of, window_bits}
use Rattle.reader.specs.Reads.{ends_agree}
use Rattle.reader.proofs.Ends.{ends_agree_lem, ends_repeat}
use Rattle.captures.specs.Captures.{window_at}
use Rattle.captures.proofs.Places.{window_there, window-length}
use Rattle.quick_search.specs.Pairs.{PairAgrees, PairsAgree}

-- ---- a row of pairs

module _ (n : ℕ) (s : List ℕ) where
  pub agree_none : (a : ℕ) → PairsAgree n s a a
  agree_none a j from below = absurd (omega arith)

  -- the pair before them agrees too
  pub agree_before : (a b : ℕ) → PairAgrees n s a → PairsAgree n s (a + 1) b → PairsAgree n s a b
  agree_before a b here rest j from below =
      ⊎_elim (λ (e : a ≡ j). subst (PairAgrees n s) e here) (λ (h : a < j). rest j (omega arith) below) (eq-or-lt_of_le from)

  -- a row of pairs, and one behind it
  pub agree_on : (a b c : ℕ) → PairsAgree n s a b → PairsAgree n s b c → PairsAgree n s a c
  agree_on a b c front back j from below = go (ltb j b) refl
    where
      go : (t : Bool) → ltb j b ≡ t → PairAgrees n s j
      go true h = front j from (ltb-true j b h)
      go false h = back j (ltb-false j b h) below

-- ---- the pairs of a window

-- a window has some
pub some_pairs : (format : Format) → 0 < (numbers_of format).r
some_pairs Long = lit< tt
some_pairs Short = lit< tt

module _ (format : Format) (s : List ℕ) (p : ℕ) (fits : p + window_bits (numbers_of format) ≤ length s) where
  -- a bit of the window
  pub window_bit : (i : ℕ) → i < window_bits (numbers_of format) → get_or (window_at format s p) i 0 ≡ get_or s (p + i) 0
  window_bit i below =
      ap (λ (w : List ℕ). get_or w i 0) (window_there format s p fits) ∙ get_or-take (window_bits (numbers_of format)) (drop p s) i 0 below ∙ get_or-drop p s i 0

  -- bit i of the first r and of the last r
  first_bit : (i : ℕ) → i < (numbers_of format).r → get_or (take (numbers_of format).r (window_at format s p)) i 0 ≡ get_or s (p + i) 0
  first_bit i below = get_or-take (numbers_of format).r (window_at format s p) i 0 below ∙ window_bit i (omega arith)

  last_bit : (i : ℕ) → i < (numbers_of format).r → get_or (drop (numbers_of format).n (window_at format s p)) i 0 ≡ get_or s (p + i + (numbers_of format).n) 0
  last_bit i below =
      let n = (numbers_of format).n in
      let place : p + (n + i) ≡ p + i + n = omega arith in
      get_or-drop n (window_at format s p) i 0 ∙ window_bit (n + i) (omega arith) ∙ ap (λ (x : ℕ). get_or s x 0) place

  pub pairs_ends : PairsAgree (numbers_of format).n s p (p + (numbers_of format).r) → ends_agree (numbers_of format) (window_at format s p) ≡ true
  pairs_ends agree =
      let F = numbers_of format in
      let w = window_at format s p in
      let size = window-length format s p fits in
      let last : length (drop F.n w) ≡ F.r = omega (arith, length-drop F.n w, size) in
      let first : length (take F.r w) ≡ F.r = length-take-le F.r w (omega (arith, size)) in
      ends_agree_lem F w
      (ext_get_or 0 (drop F.n w) (take F.r w) (last ∙ sym first) λ i below.
      let inside : i < F.r = omega (arith, last) in
      last_bit i inside ∙ sym (agree (p + i) (omega arith) (omega arith)) ∙ sym (first_bit i inside))

  pub ends_pairs : ends_agree (numbers_of format) (window_at format s p) ≡ true → PairsAgree (numbers_of format).n s p (p + (numbers_of format).r)
  ends_pairs e j from below =
      let F = numbers_of format in
      let i = j - p in
      let inside : i < F.r = omega arith in
      let place : p + i ≡ j = omega arith in
      subst (PairAgrees F.n s) place
      (sym (first_bit i inside) ∙ sym (ap (λ (l : List ℕ). get_or l i 0) (ends_repeat F (window_at format s p) e)) ∙ last_bit i inside)
