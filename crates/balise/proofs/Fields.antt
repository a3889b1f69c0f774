-- Values that fit their fields are read back from the number that packs them. Assumes nothing.
use mathlib.Core.Path.{◌≡◌, refl, ◌∙◌}
use mathlib.Core.List.{List, [], ◌∷◌}
use Prim.Native.Nat.{ℕ, ◌+◌, ◌*◌, ◌/◌, ◌%◌, ◌<◌}
use native.Mathlib.Omega.{arith}
use native.Mathlib.Nat.{zero-mod, zero-div, mod-eq_of_lt, div-eq_of_lt, add-mul-div_left, add-mul-mod_self_left}
use Rattle.balise.specs.AsNumber.{packed, unpacked, Fits, filled, ReadBack}

-- the lowest field, and the number above it
module _ (size v above : ℕ) (below : v < size) where
  lowest : (v + size * above) % size ≡ v
  lowest = add-mul-mod_self_left v size above ∙ mod-eq_of_lt below

  higher : (v + size * above) / size ≡ above
  higher =
      let some : 0 < size = omega arith in
      omega (arith, add-mul-div_left v above some, div-eq_of_lt below)

-- every field of 0 holds 0
zeros : (sizes : List ℕ) → unpacked sizes 0 ≡ filled sizes []
zeros [] = refl
zeros (size ∷ sizes) = rw (zero-mod, zero-div, zeros sizes) refl

pub fits_back : (sizes vs : List ℕ) → Fits sizes vs → ReadBack sizes vs
fits_back [] [] fits = refl
fits_back [] (v ∷ vs) fits = absurd fits
fits_back (size ∷ sizes) [] fits = zeros (size ∷ sizes)
fits_back (size ∷ sizes) (v ∷ vs) (below, fits) =
    rw (lowest size v (packed sizes vs) below, higher size v (packed sizes vs) below, fits_back sizes vs fits) refl
