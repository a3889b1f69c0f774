-- The number of a word, found by going through the table: it is the number whose word this is, and a word that is no entry has its kind.
-- Assumes nothing.
use mathlib.Core.Path.{◌≡◌, refl, ap, ◌∙◌}
use mathlib.Core.Bool.{Bool, true, false, true≢false, cond}
use mathlib.Core.List.{List, [], ◌∷◌}
use Prim.Native.Nat.{ℕ, zero, suc, ◌+◌, ◌≤◌, ◌<◌}
use native.Mathlib.Nat.{le_of_suc-le-suc, not-suc-le-zero}
use native.Mathlib.Omega.{arith}
use lib.Dec.{T, eqb}
use lib.ListN.{length, get_or}
use borrow.Author.Tests.{eq-eqb, ne_eqb, eqb-true}
use Rattle.words.specs.declared.Kind.{Kind}
use Rattle.words.specs.Table.{table}
use Rattle.words.specs.Words.{word_of, kind_of, lookup_from, lookup_of, in_table}
use Rattle.words.proofs.Lists.{rises, rises-first, rises_rest, rises_least}
use Rattle.words.proofs.Rules.{table-length, table-rises, within, word_bits}
use Rattle.std.specs.Prelude.{Result, Ok, Err, is_ok}

-- the first entry is the word, or is another
pub found_here : (i x : ℕ) (xs : List ℕ) (w : ℕ) → x ≡ w → lookup_from i (x ∷ xs) w ≡ Ok i
unfolding lookup_from
found_here i x xs w e = ap (λ (b : Bool). cond b (Ok i) (lookup_from (suc i) xs w)) (eq-eqb x w e)

pub found_later : (i x : ℕ) (xs : List ℕ) (w : ℕ) → (x ≡ w → ⊥) → lookup_from i (x ∷ xs) w ≡ lookup_from (suc i) xs w
unfolding lookup_from
found_later i x xs w d = ap (λ (b : Bool). cond b (Ok i) (lookup_from (suc i) xs w)) (ne_eqb x w d)

-- a word below every entry is not found
pub too_low : (k i : ℕ) (l : List ℕ) (w : ℕ) → T (rises k l) → w < k → lookup_from i l w ≡ Err (kind_of w)
unfolding lookup_from
too_low k i [] w t h = refl
too_low k i (x ∷ xs) w t h =
    let low : w < x = omega (arith, rises-first k x xs t) in
    found_later i x xs w (λ e. omega arith) ∙ too_low (suc x) (suc i) xs w (rises_rest k x xs t) (omega arith)

-- an entry's number is its place
found : (k i : ℕ) (l : List ℕ) → T (rises k l) → (j : ℕ) → j < length l → lookup_from i l (get_or l j 0) ≡ Ok (i + j)
found k i [] t j h = absurd (not-suc-le-zero h)
found k i (x ∷ xs) t zero h = found_here i x xs x refl ∙ ap Ok (omega arith)
found k i (x ∷ xs) t (suc j) h =
    let p : j < length xs = le_of_suc-le-suc h in
    let later : suc x ≤ get_or xs j 0 = rises_least (suc x) xs (rises_rest k x xs t) j p in
    found_later i x xs (get_or xs j 0) (λ e. omega arith)
    ∙ found (suc x) (suc i) xs (rises_rest k x xs t) j p
    ∙ ap Ok (omega arith)

-- what is found is an entry
pub record Entry (i n w : ℕ) (l : List ℕ) : Type 0 where
  pub place : ℕ
  pub counted : n ≡ i + place
  pub inside : place < length l
  pub entry : get_or l place 0 ≡ w

entry : (i : ℕ) (l : List ℕ) (w n : ℕ) → lookup_from i l w ≡ Ok n → Entry i n w l
unfolding lookup_from
entry i [] w n e = let z : ◌≡◌ {A = ℕ} 0 1 = cc in absurd (omega arith)
entry i (x ∷ xs) w n e = go (entry (suc i) xs w n) (eqb x w) refl e
  where
    go : (lookup_from (suc i) xs w ≡ Ok n → Entry (suc i) n w xs)
        → (b : Bool) → eqb x w ≡ b → cond b (Ok i) (lookup_from (suc i) xs w) ≡ Ok n → Entry i n w (x ∷ xs)
    go ih true p q =
        let same : i ≡ n = cc in
        record { place = 0; counted = omega arith; inside = omega arith; entry = eqb-true x w p }
    go ih false p q =
        let r = ih q in
        record { place = suc r.place; counted = omega arith; inside = omega arith; entry = r.entry }

pub lookup_word : (i : ℕ) → i < 1024 → lookup_of (word_of i) ≡ Ok i
unfolding lookup_of word_of
lookup_word i h = found 0 0 table table-rises i (within i h) ∙ ap Ok (omega arith)

pub lookup_number : (w i : ℕ) → lookup_of w ≡ Ok i → (i < 1024) × (word_of i ≡ w)
unfolding lookup_of word_of
lookup_number w i e =
    let r = entry 0 table w i e in
    let same : i ≡ r.place = omega arith in
    (omega (arith, table-length), ap (λ (n : ℕ). get_or table n 0) same ∙ r.entry)

-- a word that is no entry has its kind
kind_from : (i : ℕ) (l : List ℕ) (w : ℕ) (kind : Kind) → lookup_from i l w ≡ Err kind → kind ≡ kind_of w
unfolding lookup_from
kind_from i [] w kind e = cc
kind_from i (x ∷ xs) w kind e = go (kind_from (suc i) xs w kind) (eqb x w) e
  where
    go : (lookup_from (suc i) xs w ≡ Err kind → kind ≡ kind_of w)
        → (b : Bool) → cond b (Ok i) (lookup_from (suc i) xs w) ≡ Err kind → kind ≡ kind_of w
    go ih true q = let z : ◌≡◌ {A = ℕ} 0 1 = cc in absurd (omega arith)
    go ih false q = ih q

pub lookup_kind : (w : ℕ) (kind : Kind) → lookup_of w ≡ Err kind → kind ≡ kind_of w
unfolding lookup_of
lookup_kind w kind e = kind_from 0 table w kind e

-- a word that the table does not have is found with its kind
pub lookup_absent : (w : ℕ) → in_table w ≡ false → lookup_of w ≡ Err (kind_of w)
lookup_absent w h = go (lookup_of w) refl h
  where
    go : (r : Result ℕ Kind) → lookup_of w ≡ r → is_ok r ≡ false → lookup_of w ≡ Err (kind_of w)
    go (Ok i) e f = absurd (true≢false f)
    go (Err kind) e f = e ∙ ap Err (lookup_kind w kind e)

-- a number of twelve bits or more is no word
pub lookup_wide : (w : ℕ) → 2048 ≤ w → lookup_of w ≡ Err (kind_of w)
lookup_wide w h = go (lookup_of w) refl
  where
    go : (r : Result ℕ Kind) → lookup_of w ≡ r → lookup_of w ≡ Err (kind_of w)
    go (Ok i) e =
        let p = lookup_number w i e in
        absurd (omega (arith, word_bits i p.0))
    go (Err kind) e = e ∙ ap Err (lookup_kind w kind e)
