-- A window of 462 bits of a long telegram that meets condition 3, with at most 14 bits changed, has ends that do not agree: of the
-- pairs of places (j, j + 341), j below 121, at least 15 differ, and a change mends at most one of them. Assumes nothing.
use mathlib.Core.Bool.{Bool, true, false}
use mathlib.Core.List.{List}
use mathlib.Core.Path.{◌≡◌, sym, ap, ap₂, subst, ◌∙◌}
use Prim.Native.Nat.{ℕ, zero, suc, ◌+◌, ◌-◌, ◌*◌, ◌/◌, ◌%◌, ◌≤◌}
use native.Mathlib.Omega.{arith}
use lib.Dec.{T}
use lib.ListN.{length, take, drop, length-take, length-drop}
use lib.Seq.{drop-drop}
use Rattle.bits.specs.Bits.{all_bits, around, flip}
use Rattle.bits.specs.Differences.{differences}
use Rattle.bits.proofs.AllBits.{all_bits-take, all_bits-drop}
use Rattle.bits.proofs.Differences.{differences-append, differences-cut, differences-drop, differences-flip, differences_symmetric, differences_triangle}
use Rattle.bits.proofs.Flipped.{flip-take, flip-drop, length-flip}
use Rattle.bits.proofs.Ring.{length-around, all_bits-around, around-append, around_rounds, take-around, drop-around}
use Rattle.formats.specs.declared.format.Format.TheVariants.{Long}
use Rattle.conditions.specs.Conditions.{not_repeating}
use Rattle.conditions.proofs.Apart.{word-apart}
use Rattle.reader.specs.Windows.{oriented, cut}
use Rattle.reader.proofs.Windows.{cut_is}

-- first j places of both, then the rest
differences-around : (j k p q : ℕ) (b : List ℕ) → differences (around (j + k) p b) (around (j + k) q b)
    ≡ differences (around j p b) (around j q b) + differences (around k (p + j) b) (around k (q + j) b)
differences-around j k p q b =
    ap₂ differences (around-append j k p b) (around-append j k q b)
    ∙ differences-append (around j p b) (around j q b) (around k (p + j) b) (around k (q + j) b)
    (length-around j p b ∙ sym (length-around j q b))

-- if the ends of w agree, w differs from x in as many places as the ends of x do from each other, or more
ends_changes : (r d : ℕ) (x w : List ℕ) → length x ≡ r + d + r → length w ≡ r + d + r → take r w ≡ drop (r + d) w
    → differences (take r x) (drop (r + d) x) ≤ differences x w
ends_changes r d x w e f agree =
    let first = differences-cut r x w in
    let last = simp drop-drop at (differences-drop d (drop r x) (drop r w)) in
    let turned = ap (λ (l : List ℕ). differences l (drop (r + d) x)) agree ∙ differences_symmetric (drop (r + d) w) (drop (r + d) x) in
    omega (arith, differences_triangle (take r x) (take r w) (drop (r + d) x) (simp length-take (omega arith)) (simp (length-take, length-drop) (omega arith)))

module _ (b : List ℕ) (size : length b ≡ 1023) (condition : T (not_repeating Long b)) where
  -- at every multiple of 11, going round
  block_apart : (j : ℕ) → 3 ≤ differences (around 22 (11 * j) b) (around 22 (11 * j + 341) b)
  block_apart j =
      let near : 11 * j ≡ 11 * (j % 93) + (j / 93) * length b = rw size (omega arith) in
      let far : 11 * j + 341 ≡ 11 * (j % 93) + 341 + (j / 93) * length b = rw size (omega arith) in
      rw (far, near) (simp around_rounds (word-apart b condition (j % 93) (omega arith)))

  -- n blocks in a row
  blocks-apart : (n j : ℕ) → 3 * n ≤ differences (around (22 * n) (11 * j) b) (around (22 * n) (11 * j + 341) b)
  blocks-apart zero j = omega arith
  blocks-apart (suc n) j =
      let more : 22 * suc n ≡ 22 + 22 * n = omega arith in
      let near : 11 * j + 22 ≡ 11 * (j + 2) = omega arith in
      let far : 11 * j + 341 + 22 ≡ 11 * (j + 2) + 341 = omega arith in
      rw (more, differences-around, near, far) (omega (arith, block_apart j, blocks-apart n (j + 2)))

  -- 121 places from anywhere contain five of the blocks
  pub fifteen : (t : ℕ) → 15 ≤ differences (around 121 t b) (around 121 (t + 341) b)
  fifteen t =
      let j : ℕ = (t + 10) / 11 in
      let a : ℕ = 11 * j - t in
      let parts : 121 ≡ a + (110 + (11 - a)) = omega arith in
      let near : t + a ≡ 11 * j = omega arith in
      let far : t + 341 + a ≡ 11 * j + 341 = omega arith in
      rw (parts, differences-around a, differences-around 110, near, far) (omega (arith, blocks-apart 5 j))

  -- the same as parts of a window
  window_ends : (t : ℕ) → 15 ≤ differences (take 121 (around 462 t b)) (drop 341 (around 462 t b))
  window_ends t = rw (take-around 121 341 t b, drop-around 341 121 t b) (fifteen t)

  -- the ends of a window with at most 14 bits changed do not agree: cut upright
  upright_ends : (t : ℕ) (w : List ℕ) → length w ≡ 462 → differences (around 462 t b) w ≤ 14 → take 121 w ≡ drop 341 w → ⊥
  upright_ends t w f few agree =
      omega (arith, window_ends t, ends_changes 121 220 (around 462 t b) w (length-around 462 t b) f agree)

  -- cut flipped
  flipped_ends : T (all_bits b) → (t : ℕ) (w : List ℕ) → length w ≡ 462 → differences (flip (around 462 t b)) w ≤ 14
      → take 121 w ≡ drop 341 w → ⊥
  flipped_ends bits t w f few agree =
      let x : List ℕ = around 462 t b in
      let xbits = all_bits-around 462 t b bits in
      let same = differences-flip (take 121 x) (drop 341 x) (all_bits-take 121 x xbits) (all_bits-drop 341 x xbits) in
      let changed = ends_changes 121 220 (flip x) w (length-flip x ∙ length-around 462 t b) f agree in
      omega (arith, window_ends t, rw (flip-take, flip-drop) at same)

  -- either way
  pub changed_ends : T (all_bits b) → (t : ℕ) (flipped : Bool) (w : List ℕ) → length w ≡ 462 → differences (cut 462 t flipped b) w ≤ 14
      → drop 341 w ≡ take 121 w → ⊥
  changed_ends bits t flipped w f few agree =
      go flipped (subst (λ (x : List ℕ). differences x w ≤ 14) (cut_is 462 t flipped b) few)
    where
      go : (flipped : Bool) → differences (oriented flipped (around 462 t b)) w ≤ 14 → ⊥
      go true few = flipped_ends bits t w f few (sym agree)
      go false few = upright_ends t w f few (sym agree)
