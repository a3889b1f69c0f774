-- Windows: the bits of one, its front and its end, and that what ends with a repeat of its beginning is a window. Assumes nothing.
use mathlib.Core.Path.{◌≡◌, refl, sym, ap, ap₂, ◌∙◌}
use mathlib.Core.Bool.{Bool, true, false}
use mathlib.Core.List.{List, ◌++◌}
use Prim.Native.Nat.{ℕ, ◌+◌, ◌-◌, ◌%◌, ◌≤◌, ◌<◌}
use native.Mathlib.Nat.{add_comm}
use native.Mathlib.Omega.{arith}
use lib.Dec.{T}
use lib.ListN.{length, take, drop, take-append-drop}
use lib.Seq.{take-take, length-take-le}
use Rattle.bits.specs.Bits.{all_bits, around}
use Rattle.bits.proofs.Flipped.{length-flip, all_bits-flip, flip-flip}
use Rattle.bits.proofs.Ring.{length-around, take-around, drop-around, around_period, around-turned, around-around, flip-around}
use Rattle.cyclic.specs.Check.{turned}
use Rattle.cyclic.proofs.Laws.{length-turned, turned_back_lem}
use Rattle.conditions.proofs.Round.{around-mod}
use Rattle.reader.specs.Windows.{oriented, cut}

-- ---- upright or flipped

pub length-oriented : (flipped : Bool) (b : List ℕ) → length (oriented flipped b) ≡ length b
length-oriented true b = length-flip b
length-oriented false b = refl

pub bits_oriented : (flipped : Bool) (b : List ℕ) → T (all_bits b) → T (all_bits (oriented flipped b))
bits_oriented true b h = all_bits-flip b
bits_oriented false b h = h

pub oriented_twice : (flipped : Bool) (b : List ℕ) → T (all_bits b) → oriented flipped (oriented flipped b) ≡ b
oriented_twice true b h = flip-flip b h
oriented_twice false b h = refl

-- ---- the window of k bits

pub cut_is : (k t : ℕ) (flipped : Bool) (b : List ℕ) → cut k t flipped b ≡ oriented flipped (around k t b)
unfolding cut
cut_is k t flipped b = refl

-- a window cut flipped is cut from the telegram flipped
pub cut-oriented : (k t : ℕ) (flipped : Bool) (b : List ℕ) → 0 < length b → cut k t flipped b ≡ around k t (oriented flipped b)
unfolding cut
cut-oriented k t true b h = flip-around k t b h
cut-oriented k t false b h = refl

-- the first n bits of a longer window are the window of n bits
pub cut-front : (n r t : ℕ) (flipped : Bool) (b : List ℕ) → 0 < length b → take n (cut (n + r) t flipped b) ≡ cut n t flipped b
cut-front n r t flipped b h =
    ap (take n) (cut-oriented (n + r) t flipped b h) ∙ take-around n r t (oriented flipped b) ∙ sym (cut-oriented n t flipped b h)

-- ---- the window of n + r bits, from a ring b of n bits

module _ (n r t : ℕ) (b : List ℕ) (size : length b ≡ n) where
  -- its first n bits are b turned
  pub ring-front : t ≤ n → take n (around (n + r) t b) ≡ turned t b
  unfolding turned
  ring-front h = take-around n r t b ∙ ap (λ (x : ℕ). around x t b) (sym size) ∙ around-turned t b (omega arith)

  -- its last r bits repeat the first r
  pub ring_ends : drop n (around (n + r) t b) ≡ take r (around (n + r) t b)
  ring_ends =
      drop-around n r t b ∙ ap (λ (x : ℕ). around r (t + x) b) (sym size) ∙ around_period r t b
      ∙ sym (ap (λ (x : ℕ). take r (around x t b)) (add_comm n r) ∙ take-around r n t b)

-- the first n bits settle a window whose last r repeat its first
pub by_front : (n r : ℕ) (w v : List ℕ) → r ≤ n → drop n w ≡ take r w → drop n v ≡ take r v → take n w ≡ take n v → w ≡ v
by_front n r w v within w-ends v-ends front =
    let back : drop n w ≡ drop n v =
    w-ends ∙ sym (take-take r n w within) ∙ ap (take r) front ∙ take-take r n v within ∙ sym v-ends in
    sym (take-append-drop n w) ∙ ap₂ ◌++◌ front back ∙ take-append-drop n v

-- bits whose last r repeat the first r are the window of the first n, turned back, cut at the turn
pub window_of : (n r t : ℕ) (w : List ℕ) → r ≤ n → t ≤ n → length w ≡ n + r → drop n w ≡ take r w
    → around (n + r) t (turned (n - t) (take n w)) ≡ w
unfolding turned
window_of n r t w within below size agree =
    let v = take n w in
    let b = turned (n - t) v in
    let all : length v ≡ n = length-take-le n w (omega arith) in
    let ring : length b ≡ n = length-turned (n - t) v ∙ all in
    let round : t + (n - t) ≡ length v = omega arith in
    by_front n r (around (n + r) t b) w within (ring_ends n r t b ring) agree (ring-front n r t b ring below ∙ turned_back_lem t (n - t) v round)

-- bits whose last r repeat the first r, and whose first n are those of the window cut at t, turned by s, are the window cut s further on
pub turned-window : (n r t s : ℕ) (x w : List ℕ) → 0 < n → length x ≡ n → r ≤ n → s ≤ n → drop n w ≡ take r w
    → take n w ≡ turned s (take n (around (n + r) t x)) → w ≡ around (n + r) ((t + s) % n) x
unfolding turned
turned-window n r t s x w some size within by agree front =
    let v = around (length x) t x in
    let q = (t + s) % n in
    let all : length v ≡ n = length-around (length x) t x ∙ size in
    let first : take n (around (n + r) t x) ≡ v = take-around n r t x ∙ ap (λ (k : ℕ). around k t x) (sym size) in
    let turn : turned s v ≡ around n s v = sym (around-turned s v (omega arith)) ∙ ap (λ (k : ℕ). around k s v) all in
    let on : around n s v ≡ around n q x =
    around-around n s t x (omega arith) ∙ sym (around-mod n (t + s) x) ∙ ap (λ (k : ℕ). around n ((t + s) % k) x) size in
    by_front n r w (around (n + r) q x) within agree (ring_ends n r q x size)
    (front ∙ ap (turned s) first ∙ turn ∙ on ∙ sym (take-around n r q x))
