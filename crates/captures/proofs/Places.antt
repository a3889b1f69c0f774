-- The windows of a capture, and the places at which read accepts. Assumes nothing.
use mathlib.Core.Path.{◌≡◌, refl, sym, ap, subst⁻¹, ◌∙◌}
use mathlib.Core.Bool.{Bool, true, false}
use mathlib.Core.List.{List, []}
use Prim.Native.Nat.{ℕ, ◌+◌, ◌-◌, ◌≤◌, ◌<◌}
use native.Mathlib.Omega.{arith}
use borrow.Author.Tests.{le-leb, lt-leb, leb-true, leb-false}
use lib.Dec.{T, leb}
use lib.ListN.{length, take, drop, length-drop}
use lib.Seq.{length-take-le}
use Rattle.bits.specs.Bits.{all_bits}
use Rattle.bits.specs.Search.{found, none}
use Rattle.bits.proofs.AllBits.{all_bits-take, all_bits-drop}
use Rattle.bits.proofs.First.{found_first, missing_first}
use Rattle.bits.proofs.Tests.{is_false}
use Rattle.formats.specs.declared.format.Format.{Format}
use Rattle.formats.specs.declared.format.Format.TheVariants.{Long, Short}
use Rattle.formats.specs.Numbers.{short, numbers_of, window_bits}
use Rattle.formats.proofs.Sizes.{window_between}
use Rattle.reader.specs.declared.Asked.TheVariants.{Proper}
use Rattle.reader.proofs.Laws.{reads_size}
use Rattle.captures.specs.Captures.{window_at, accepts_as, accepts_at, first_place, format_at}

-- ---- a format's window at a place

module _ (format : Format) (s : List ℕ) (p : ℕ) where
  pub window_there : p + window_bits (numbers_of format) ≤ length s → window_at format s p ≡ take (window_bits (numbers_of format)) (drop p s)
  unfolding window_at
  window_there h = rw (le-leb (p + window_bits (numbers_of format)) (length s) h)

  pub window_empty : length s < p + window_bits (numbers_of format) → window_at format s p ≡ []
  unfolding window_at
  window_empty h = rw (lt-leb (p + window_bits (numbers_of format)) (length s) h)

  -- the part of the capture that is lent
  pub window-lent : (size : ℕ) → size ≡ window_bits (numbers_of format) → p + window_bits (numbers_of format) ≤ length s
      → take (p + size - p) (drop p s) ≡ window_at format s p
  window-lent size e fits =
      let count : p + size - p ≡ window_bits (numbers_of format) = omega arith in
      ap (λ (k : ℕ). take k (drop p s)) count ∙ sym (window_there fits)

  pub window-length : p + window_bits (numbers_of format) ≤ length s → length (window_at format s p) ≡ window_bits (numbers_of format)
  window-length h =
      ap length (window_there h) ∙ length-take-le (window_bits (numbers_of format)) (drop p s) (omega (arith, length-drop p s))

  -- what is not empty is whole
  pub window_some : (length (window_at format s p) ≡ 0 → ⊥) → p + window_bits (numbers_of format) ≤ length s
  window_some some = go (leb (p + window_bits (numbers_of format)) (length s)) refl
    where
      go : (b : Bool) → leb (p + window_bits (numbers_of format)) (length s) ≡ b → p + window_bits (numbers_of format) ≤ length s
      go true f = leb-true (p + window_bits (numbers_of format)) (length s) f
      go false f = absurd (some (ap length (window_empty (leb-false (p + window_bits (numbers_of format)) (length s) f))))

  pub window_bits_lem : T (all_bits s) → p + window_bits (numbers_of format) ≤ length s → T (all_bits (window_at format s p))
  window_bits_lem h fits = subst⁻¹ (λ (w : List ℕ). T (all_bits w)) (window_there fits) (all_bits-take (window_bits (numbers_of format)) (drop p s) (all_bits-drop p s h))

  -- what is accepted fits
  pub accepts_fits : T (accepts_as format s p) → p + window_bits (numbers_of format) ≤ length s
  unfolding accepts_as
  accepts_fits h = window_some (λ e. omega (arith, e, window_between format, reads_size Proper format (window_at format s p) h))

  pub far_refused : length s < p + window_bits (numbers_of format) → accepts_as format s p ≡ false
  far_refused h = is_false (accepts_as format s p) (λ t. absurd (omega (arith, accepts_fits t)))

-- ---- the first place

module _ (s : List ℕ) (p : ℕ) where
  pub long_there : accepts_as Long s p ≡ true → (accepts_at s p ≡ true) × (format_at s p ≡ Long)
  unfolding accepts_at format_at
  long_there e = (rw e, rw e)

  pub short_there : accepts_as Long s p ≡ false → accepts_as Short s p ≡ true → (accepts_at s p ≡ true) × (format_at s p ≡ Short)
  unfolding accepts_at format_at
  short_there e f = (rw (e, f), rw e)

  pub neither_there : accepts_as Long s p ≡ false → accepts_as Short s p ≡ false → accepts_at s p ≡ false
  unfolding accepts_at
  neither_there e f = rw (e, f)

-- read accepts at none of the places below p
abbrev pub Passed : List ℕ → ℕ → Type 0
Passed s p = (j : ℕ) → j < p → accepts_at s j ≡ false

-- it accepts at p, and not before
pub found_there : (s : List ℕ) (p : ℕ) → Passed s p → accepts_at s p ≡ true → p < length s → first_place s ≡ found p
unfolding first_place
found_there s p passed e below =
    found_first (accepts_at s) 0 (length s) p (record { from = omega arith; below = omega arith; passed = e; earlier = λ j from. passed j })

-- no window fits any more
pub none_there : (s : List ℕ) (p : ℕ) → Passed s p → length s < p + window_bits short → first_place s ≡ none
unfolding first_place
none_there s p passed over = missing_first (accepts_at s) 0 (length s) (λ j from below. by_place j (leb p j) refl)
  where
    by_place : (j : ℕ) (b : Bool) → leb p j ≡ b → accepts_at s j ≡ false
    by_place j true e =
        let after = leb-true p j e in
        neither_there s j (far_refused Long s j (omega (arith, window_between Long))) (far_refused Short s j (omega arith))
    by_place j false e = passed j (leb-false p j e)
