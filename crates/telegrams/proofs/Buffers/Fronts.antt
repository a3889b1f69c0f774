-- A buffer that is written from the front part by part: a callee is lent what is left of it, writes the front of that, and keeps the rest.
-- Assumes nothing.
use mathlib.Core.Path.{◌≡◌, sym, ap, ap₂, ◌∙◌}
use mathlib.Core.List.{List, ◌++◌, append-nil, append_assoc}
use Prim.Native.Nat.{ℕ, ◌+◌, ◌-◌, ◌*◌, ◌≤◌}
use native.Mathlib.Omega.{arith}
use lib.ListN.{length, take, drop, length-append, length-drop, drop_of_length-le, take-append-drop}
use lib.Seq.{take_all, length-take-le, drop-drop}
use borrow.Rule.Slice.PartMut.{put_mid}
use Rattle.bits.specs.Groups.{each_group}
use Rattle.bits.proofs.Groups.{length_groups, groups_more}
use Rattle.bits.proofs.Parts.{front_is, rest_is}

-- what is lent of s from place a on, and s once the callee has left w there
abbrev pub lent : ℕ → List ℕ → List ℕ
lent a s = take (length s - a) (drop a s)

abbrev pub back : ℕ → List ℕ → List ℕ → List ℕ
back a s w = put_mid a (length s - a) s w

pub lent_is : (a : ℕ) (s : List ℕ) → lent a s ≡ drop a s
lent_is a s = take_all (length s - a) (drop a s) (omega (arith, length-drop a s))

-- p stands in front of s, and the rest is that of old; the callee puts w in the place of the next k
pub front_more : (p w old s left : List ℕ) (a k : ℕ) → length p ≡ a → s ≡ p ++ drop a old → left ≡ w ++ drop k (lent a s)
    → back a s left ≡ (p ++ w) ++ drop (a + k) old
front_more p w old s left a k size e written =
    let none = drop_of_length-le (drop a s) {i = length s - a} (omega (arith, length-drop a s)) in
    let next : left ≡ w ++ drop (a + k) old =
    written ∙ ap (λ (l : List ℕ). w ++ drop k l) (lent_is a s ∙ rest_is p (drop a old) s a size e) ∙ ap (λ (l : List ℕ). w ++ l) (drop-drop k a old) in
    ap₂ ◌++◌ (front_is p (drop a old) s a size e) (ap₂ ◌++◌ next none ∙ append-nil (w ++ drop (a + k) old)) ∙ sym (append_assoc p w (drop (a + k) old))

-- what f makes of j groups of s stands in front of out, and the callee puts what it makes of the next after it
pub group_more : (f : List ℕ → List ℕ) (w v : ℕ) → ((group : List ℕ) → length (f group) ≡ v) → (j : ℕ) (s old out left next : List ℕ)
    → out ≡ each_group f w j s ++ drop (v * j) old → next ≡ f (take w (drop (w * j) s)) → left ≡ next ++ drop v (lent (v * j) out)
    → back (v * j) out left ≡ each_group f w (j + 1) s ++ drop (v * (j + 1)) old
group_more f w v size j s old out left next e next_is written =
    let place : v * j + v ≡ v * (j + 1) = omega arith in
    front_more (each_group f w j s) next old out left (v * j) v (length_groups f w v size j s) e written
    ∙ ap₂ (λ (front : List ℕ) (i : ℕ). front ++ drop i old) (ap (λ (l : List ℕ). each_group f w j s ++ l) next_is ∙ sym (groups_more f w j s)) place

-- the callee puts w in the place of the k after the first a of s
module _ (a k : ℕ) (s w left : List ℕ) (within : a ≤ length s) (size : length w ≡ k) (written : left ≡ w ++ drop k (lent a s)) where
  pub put : back a s left ≡ (take a s ++ w) ++ drop (a + k) s
  put = front_more (take a s) w s s left a k (length-take-le a s within) (sym (take-append-drop a s)) written

  -- those stand after the first a
  pub put_whole : take (a + k) (back a s left) ≡ take a s ++ w
  put_whole =
      front_is (take a s ++ w) (drop (a + k) s) (back a s left) (a + k) (length-append (take a s) w ∙ ap₂ ◌+◌ (length-take-le a s within) size) put

  -- which are as they were
  pub put_front : take a (back a s left) ≡ take a s
  put_front = front_is (take a s) (w ++ drop (a + k) s) (back a s left) a (length-take-le a s within) (put ∙ append_assoc (take a s) w (drop (a + k) s))
