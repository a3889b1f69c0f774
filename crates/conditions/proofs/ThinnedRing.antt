-- The thinned ring: how many bits it has, that they are bits, and how the places of its bits follow each other. Assumes nothing.
use mathlib.Core.Path.{◌≡◌, refl, sym, ap, ◌∙◌}
use mathlib.Core.List.{List}
use Prim.Native.Nat.{ℕ, zero, suc, ◌+◌, ◌-◌, ◌*◌, ◌%◌, ◌^◌, ◌≤◌, ◌<◌}
use native.Mathlib.Nat.{mod-lt, mod-add-mod, mod-eq_of_lt}
use native.Mathlib.Decide.{dec_lt}
use native.Mathlib.Omega.{arith}
use lib.Dec.{T}
use lib.ListN.{length, get_or}
use Rattle.bits.specs.Bits.{all_bits}
use Rattle.bits.proofs.AllBits.{all_bits-nil, all_bits-cons, all_bits-get_or}
use Rattle.conditions.specs.Conditions.{thinned_below, thinned}
use Rattle.conditions.proofs.Round.{mod_past}

pub length-thinned_below : (j step : ℕ) (b : List ℕ) → length (thinned_below j step b) ≡ j
unfolding thinned_below
length-thinned_below zero step b = refl
length-thinned_below (suc j) step b = ap suc (length-thinned_below j step b)

pub length-thinned : (k : ℕ) (b : List ℕ) → length (thinned k b) ≡ length b
unfolding thinned
length-thinned k b = length-thinned_below (length b) (2 ^ k) b

pub all_bits-thinned_below : (j step : ℕ) (b : List ℕ) → T (all_bits b) → T (all_bits (thinned_below j step b))
unfolding thinned_below
all_bits-thinned_below zero step b h = all_bits-nil
all_bits-thinned_below (suc j) step b h =
    all_bits-cons (get_or b (length b - 1 - j * step % length b) 0) (thinned_below j step b)
    (all_bits-get_or b (length b - 1 - j * step % length b) h)
    (all_bits-thinned_below j step b h)

pub all_bits-thinned : (k : ℕ) (b : List ℕ) → T (all_bits b) → T (all_bits (thinned k b))
unfolding thinned
all_bits-thinned k b h = all_bits-thinned_below (length b) (2 ^ k) b h

-- v(j) stands at place n-1 - j*step % n of b: from v(j+1) the place goes on by step
module _ (n j step : ℕ) (some : 0 < n) (short : step ≤ n) where
  abbrev r : ℕ
  r = j * step % n

  small : r < n
  small = mod-lt (j * step) some

  before : (j + 1) * step % n ≡ (r + step) % n
  before =
      let product : (j + 1) * step ≡ j * step + step = omega arith in
      ap (λ (x : ℕ). x % n) product ∙ sym (mod-add-mod (j * step) n step)

  on : Dec (r + step < n) → (n - 1 - (j + 1) * step % n + step) % n ≡ n - 1 - r
  on (yes inside) =
      let at : n - 1 - (j + 1) * step % n + step ≡ n - 1 - r = omega (arith, before, mod-eq_of_lt inside) in
      let in-ring : n - 1 - r < n = omega arith in
      ap (λ (x : ℕ). x % n) at ∙ mod-eq_of_lt in-ring
  on (no over) =
      let turned = mod_past (r + step) n (omega arith) (omega (arith, small)) in
      let at : n - 1 - (j + 1) * step % n + step ≡ n - 1 - r + n = omega (arith, before, turned, small) in
      omega (arith, ap (λ (x : ℕ). x % n) at, mod_past (n - 1 - r + n) n (omega arith) (omega arith))

  pub place_on : (n - 1 - (j + 1) * step % n + step) % n ≡ n - 1 - j * step % n
  place_on = on (dec_lt (r + step) n)
