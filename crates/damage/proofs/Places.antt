-- Lists of one length compared place by place: the parts in which no place is changed are equal. Assumes nothing.
use Prim.Native.Nat.{ℕ, ◌+◌, ◌-◌, ◌≤◌, ◌<◌}
use mathlib.Core.Bool.{Bool, true, false}
use mathlib.Core.Path.{◌≡◌, refl, sym, ap, ap₂, ◌∙◌}
use mathlib.Core.List.{List, ◌++◌}
use native.Mathlib.Decide.{ℕ_discrete}
use native.Mathlib.Omega.{arith}
use borrow.Author.Tests.{ltb-true, ltb-false}
use lib.Dec.{ltb}
use lib.ListN.{length, get_or, take, drop, length-take, length-drop, take-append-drop}
use lib.Seq.{ext_get_or, get_or-take, get_or-drop, drop-drop}
use Rattle.damage.specs.Bursts.{Changed}

-- a place of w that is not changed holds in v what it held
pub unchanged : (w v : List ℕ) (j : ℕ) → j < length w → (Changed w v j → ⊥) → get_or v j 0 ≡ get_or w j 0
unchanged w v j below h = go (ℕ_discrete (get_or v j 0) (get_or w j 0))
  where
    go : Dec (get_or v j 0 ≡ get_or w j 0) → get_or v j 0 ≡ get_or w j 0
    go (yes e) = e
    go (no f) = absurd (h (below, f))

module _ (w v : List ℕ) (size : length v ≡ length w) where
  -- no place below i is changed
  pub same-front : (i : ℕ) → ((j : ℕ) → j < i → Changed w v j → ⊥) → take i v ≡ take i w
  same-front i h =
      ext_get_or 0 (take i v) (take i w) (simp length-take (omega arith)) λ j below.
      let inside : j < i = omega (arith, length-take i v) in
      let held : j < length w = omega (arith, length-take i v) in
      get_or-take i v j 0 inside ∙ unchanged w v j held (h j inside) ∙ sym (get_or-take i w j 0 inside)

  -- no place from i on
  pub same_back : (i : ℕ) → ((j : ℕ) → i ≤ j → Changed w v j → ⊥) → drop i v ≡ drop i w
  same_back i h =
      ext_get_or 0 (drop i v) (drop i w) (simp length-drop (omega arith)) λ j below.
      let held : i + j < length w = omega (arith, length-drop i v) in
      get_or-drop i v j 0 ∙ unchanged w v (i + j) held (h (i + j) (omega arith)) ∙ sym (get_or-drop i w j 0)

  -- none but k places from i on
  pub same-around : (i k : ℕ) → ((j : ℕ) → Changed w v j → (i ≤ j) × (j < i + k)) → v ≡ take i w ++ (take k (drop i v) ++ drop (i + k) w)
  same-around i k h =
      sym (take-append-drop i v)
      ∙ ap₂ ◌++◌ (same-front i (λ j below c. let p = (h j c).0 in omega arith))
      (sym (take-append-drop k (drop i v))
      ∙ ap (λ (l : List ℕ). take k (drop i v) ++ l) (drop-drop k i v ∙ same_back (i + k) (λ j past c. let p = (h j c).1 in omega arith)))

  -- the other way: where the first i are equal, what is changed stands after them
  pub changed_after : (i : ℕ) → take i v ≡ take i w → (j : ℕ) → Changed w v j → i ≤ j
  changed_after i e j c = go (ltb j i) refl
    where
      go : (t : Bool) → ltb j i ≡ t → i ≤ j
      go true f =
          let inside = ltb-true j i f in
          absurd (c.1 (sym (get_or-take i v j 0 inside) ∙ ap (λ (l : List ℕ). get_or l j 0) e ∙ get_or-take i w j 0 inside))
      go false f = ltb-false j i f

  -- and where those from i on are, before them
  pub changed_before : (i : ℕ) → drop i v ≡ drop i w → (j : ℕ) → Changed w v j → j < i
  changed_before i e j c = go (ltb j i) refl
    where
      go : (t : Bool) → ltb j i ≡ t → j < i
      go true f = ltb-true j i f
      go false f =
          let past : i ≤ j = ltb-false j i f in
          let place : j ≡ i + (j - i) = omega arith in
          absurd
          (c.1
          (ap (λ (x : ℕ). get_or v x 0) place ∙ sym (get_or-drop i v (j - i) 0) ∙ ap (λ (l : List ℕ). get_or l (j - i) 0) e ∙ get_or-drop i w (j - i) 0
          ∙ ap (λ (x : ℕ). get_or w x 0) (sym place)))
