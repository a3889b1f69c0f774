-- The flip: its length, its bits, its parts, and the flip of the flip. Assumes nothing.
use mathlib.Core.Path.{◌≡◌, refl, ap, ap₂}
use mathlib.Core.List.{List, [], ◌∷◌}
use Prim.Native.Nat.{ℕ, zero, suc, ◌-◌, ◌<◌}
use native.Mathlib.Nat.{le_of_suc-le-suc}
use native.Mathlib.Omega.{arith}
use lib.Dec.{T}
use lib.ListN.{length, get_or, take, drop}
use Rattle.bits.specs.Bits.{all_bits, flip}
use Rattle.bits.proofs.AllBits.{all_bits-nil, all_bits-cons, all_bits_head, all_bits-tail}

pub length-flip : (s : List ℕ) → length (flip s) ≡ length s
unfolding flip
length-flip [] = refl
length-flip (b ∷ s) = ap suc (length-flip s)

pub all_bits-flip : (s : List ℕ) → T (all_bits (flip s))
unfolding flip
all_bits-flip [] = all_bits-nil
all_bits-flip (b ∷ s) = all_bits-cons (1 - b) (flip s) (omega arith) (all_bits-flip s)

pub flip-flip : (s : List ℕ) → T (all_bits s) → flip (flip s) ≡ s
unfolding flip
flip-flip [] h = refl
flip-flip (b ∷ s) h =
    let bit = all_bits_head b s h in
    let e : 1 - (1 - b) ≡ b = omega arith in
    ap₂ (λ (x : ℕ) (l : List ℕ). x ∷ l) e (flip-flip s (all_bits-tail b s h))

pub flip-take : (i : ℕ) (s : List ℕ) → flip (take i s) ≡ take i (flip s)
unfolding flip
flip-take zero s = refl
flip-take (suc i) [] = refl
flip-take (suc i) (b ∷ s) = ap (λ (l : List ℕ). (1 - b) ∷ l) (flip-take i s)

pub flip-drop : (i : ℕ) (s : List ℕ) → flip (drop i s) ≡ drop i (flip s)
unfolding flip
flip-drop zero s = refl
flip-drop (suc i) [] = refl
flip-drop (suc i) (b ∷ s) = flip-drop i s

pub get_or-flip : (s : List ℕ) (i : ℕ) → i < length s → get_or (flip s) i 0 ≡ 1 - get_or s i 0
unfolding flip
get_or-flip [] i h = absurd (omega arith)
get_or-flip (b ∷ s) zero h = refl
get_or-flip (b ∷ s) (suc i) h = get_or-flip s i (le_of_suc-le-suc h)
