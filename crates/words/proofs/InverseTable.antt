-- The inverse table, with which the code's ranks are compared: made from the table in one pass over the 2,048 words, since the
-- table rises; its entry at a word tells what looking the word up finds. Assumes nothing.
use mathlib.Core.Path.{◌≡◌, refl, ap, sym, ◌∙◌, subst}
use mathlib.Core.Bool.{Bool, true, false, cond}
use mathlib.Core.List.{List, [], ◌∷◌}
use Prim.Native.Nat.{ℕ, zero, suc, ◌+◌, ◌≤◌, ◌<◌}
use native.Mathlib.Nat.{le_of_suc-le-suc, not-suc-le-zero}
use native.Mathlib.Omega.{arith}
use lib.Dec.{T, eqb, ltb}
use lib.ListN.{length, get_or}
use borrow.Author.Tests.{eqb-true, eqb-false, lt-ltb, le-ltb}
use Rattle.words.specs.Table.{table}
use Rattle.words.specs.Words.{kind_of, lookup_from, lookup_of}
use Rattle.words.proofs.Lists.{rises, rises-first, rises_rest, rises_from}
use Rattle.words.proofs.Rules.{table-length, table-rises}
use Rattle.words.proofs.Numbers.{found_here, found_later, too_low}
use Rattle.std.specs.Prelude.{Result, Ok, Err}
use Rattle.words.specs.declared.Kind.{Kind}

-- what the entry n of the inverse table says of the word w
abbrev pub says : ℕ → ℕ → Result ℕ Kind
says w n = cond (ltb n 1024) (Ok n) (Err (kind_of w))

says_number : (w n : ℕ) → n < 1024 → says w n ≡ Ok n
says_number w n h = ap (λ (b : Bool). cond b (Ok n) (Err (kind_of w))) (lt-ltb n 1024 h)

says_none_lem : (w n : ℕ) → 1024 ≤ n → says w n ≡ Err (kind_of w)
says_none_lem w n h = ap (λ (b : Bool). cond b (Ok n) (Err (kind_of w))) (le-ltb n 1024 h)

-- the word w is the first entry of l
abbrev head_is : ℕ → List ℕ → Bool
head_is w [] = false
head_is w (x ∷ xs) = eqb x w

abbrev rest_if : Bool → List ℕ → List ℕ
rest_if true [] = []
rest_if true (x ∷ xs) = xs
rest_if false l = l

above : (w x : ℕ) (xs : List ℕ) → T (rises w (x ∷ xs)) → eqb x w ≡ false → suc w ≤ x
above w x xs t p = omega (arith, rises-first w x xs t, eqb-false x w p)

-- the entries at c words from w on, where l is the table from its entry i on
unfoldable pub inverse_from : ℕ → ℕ → ℕ → List ℕ → List ℕ
inverse_from zero w i l = []
inverse_from (suc c) w i l =
    cond (head_is w l) i 1024 ∷ inverse_from c (suc w) (cond (head_is w l) (suc i) i) (rest_if (head_is w l) l)

unfoldable pub inverse : List ℕ
inverse = inverse_from 2048 0 0 table

abbrev Tells : ℕ → ℕ → ℕ → List ℕ → ℕ → Type 0
Tells c w i l j = lookup_from i l (w + j) ≡ says (w + j) (get_or (inverse_from c w i l) j 0)

first : (w i x : ℕ) (xs : List ℕ) → T (rises w (x ∷ xs)) → i + length (x ∷ xs) ≤ 1024
    → (b : Bool) → eqb x w ≡ b → lookup_from i (x ∷ xs) (w + 0) ≡ says (w + 0) (cond b i 1024)
first w i x xs t r true p =
    let e : x ≡ w = eqb-true x w p in
    found_here i x xs (w + 0) (omega arith) ∙ sym (says_number (w + 0) i (omega arith))
first w i x xs t r false p =
    let more : suc w ≤ x = above w x xs t p in
    too_low (suc w) i (x ∷ xs) (w + 0) (rises_from w (suc w) x xs t more) (omega arith)

later : (c w i x : ℕ) (xs : List ℕ) → T (rises w (x ∷ xs)) → i + length (x ∷ xs) ≤ 1024 → (j : ℕ)
    → ((i' : ℕ) (l : List ℕ) → T (rises (suc w) l) → i' + length l ≤ 1024 → Tells c (suc w) i' l j)
    → (b : Bool) → eqb x w ≡ b
    → lookup_from i (x ∷ xs) (w + suc j) ≡ says (w + suc j) (get_or (inverse_from c (suc w) (cond b (suc i) i) (rest_if b (x ∷ xs))) j 0)
later c w i x xs t r j ih true p =
    let e : x ≡ w = eqb-true x w p in
    let next : w + suc j ≡ suc w + j = omega arith in
    found_later i x xs (w + suc j) (λ q. omega arith)
    ∙ rw next (ih (suc i) xs (subst (λ (v : ℕ). T (rises (suc v) xs)) e (rises_rest w x xs t)) (omega arith))
later c w i x xs t r j ih false p =
    let more : suc w ≤ x = above w x xs t p in
    let next : w + suc j ≡ suc w + j = omega arith in
    rw next (ih i (x ∷ xs) (rises_from w (suc w) x xs t more) r)

tells : (c w i : ℕ) (l : List ℕ) → T (rises w l) → i + length l ≤ 1024 → (j : ℕ) → j < c → Tells c w i l j
unfolding inverse_from lookup_from rises
tells zero w i l t r j h = absurd (not-suc-le-zero h)
tells (suc c) w i [] t r zero h = refl
tells (suc c) w i [] t r (suc j) h =
    let next : w + suc j ≡ suc w + j = omega arith in
    rw next (tells c (suc w) i [] tt r j (le_of_suc-le-suc h))
tells (suc c) w i (x ∷ xs) t r zero h = first w i x xs t r (eqb x w) refl
tells (suc c) w i (x ∷ xs) t r (suc j) h =
    later c w i x xs t r j (λ i' l t' r'. tells c (suc w) i' l t' r' j (le_of_suc-le-suc h)) (eqb x w) refl

pub inverse-tells : (w : ℕ) → w < 2048 → lookup_of w ≡ says w (get_or inverse w 0)
unfolding inverse lookup_of
inverse-tells w h =
    let e : 0 + w ≡ w = omega arith in
    subst (λ (v : ℕ). lookup_from 0 table v ≡ says v (get_or (inverse_from 2048 0 0 table) w 0)) e
    (tells 2048 0 0 table table-rises (omega (arith, table-length)) w h)

pub inverse_number : (w : ℕ) → w < 2048 → get_or inverse w 0 < 1024 → Ok (get_or inverse w 0) ≡ lookup_of w
inverse_number w h p = sym (inverse-tells w h ∙ says_number w (get_or inverse w 0) p)

pub inverse-none : (w : ℕ) → w < 2048 → 1024 ≤ get_or inverse w 0 → Err (kind_of w) ≡ lookup_of w
inverse-none w h p = sym (inverse-tells w h ∙ says_none_lem w (get_or inverse w 0) p)

from_length : (c w i : ℕ) (l : List ℕ) → length (inverse_from c w i l) ≡ c
unfolding inverse_from
from_length zero w i l = refl
from_length (suc c) w i l = ap suc (from_length c (suc w) (cond (head_is w l) (suc i) i) (rest_if (head_is w l) l))

pub inverse-length : length inverse ≡ 2048
unfolding inverse
inverse-length = from_length 2048 0 0 table
