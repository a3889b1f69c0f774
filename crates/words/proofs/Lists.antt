-- Tests that antt computes over a whole list, or at every number below another, each with the lemma that turns it into the rule at an entry.
-- Assumes nothing.
use mathlib.Core.Path.{◌≡◌, refl, ap, sym, ◌∙◌, subst}
use mathlib.Core.Bool.{Bool, true, false, not, ◌&&◌}
use mathlib.Core.List.{List, [], ◌∷◌, reverse_aux, reverse}
use Prim.Native.Nat.{ℕ, zero, suc, ◌+◌, ◌-◌, ◌≤◌, ◌<◌}
use mathlib.Core.Logic.{⊎_elim}
use native.Mathlib.Nat.{eq-or-lt_of_le, le_of_suc-le-suc, not-suc-le-zero}
use native.Mathlib.Omega.{arith}
use lib.Dec.{T, eqb, leb, ltb, eqb→eq, leb→le, le→leb}
use lib.ListN.{length, get_or}
use borrow.Author.Tests.{ltb-true, ltb-false}
use Rattle.bits.proofs.And.{and_left, and_right, and_of}

pub fails : (b : Bool) → T (not b) → b ≡ false
fails true t = absurd t
fails false t = refl

-- the test f passes at each entry
unfoldable pub every : (ℕ → Bool) → List ℕ → Bool
every f [] = true
every f (x ∷ xs) = f x && every f xs

pub every-at : (f : ℕ → Bool) (l : List ℕ) → T (every f l) → (i : ℕ) → i < length l → T (f (get_or l i 0))
unfolding every
every-at f [] t i h = absurd (not-suc-le-zero h)
every-at f (x ∷ xs) t zero h = and_left (f x) (every f xs) t
every-at f (x ∷ xs) t (suc i) h = every-at f xs (and_right (f x) (every f xs) t) i (le_of_suc-le-suc h)

-- the test f passes at each entry and its place, counted from k
unfoldable pub each_from : (ℕ → ℕ → Bool) → ℕ → List ℕ → Bool
each_from f k [] = true
each_from f k (x ∷ xs) = f k x && each_from f (suc k) xs

pub each_at : (f : ℕ → ℕ → Bool) (k : ℕ) (l : List ℕ) → T (each_from f k l) → (i n : ℕ) → n ≡ k + i → i < length l → T (f n (get_or l i 0))
unfolding each_from
each_at f k [] t i n e h = absurd (not-suc-le-zero h)
each_at f k (x ∷ xs) t zero n e h =
    let same : k ≡ n = omega arith in
    subst (λ (m : ℕ). T (f m x)) same (and_left (f k x) (each_from f (suc k) xs) t)
each_at f k (x ∷ xs) t (suc i) n e h =
    each_at f (suc k) xs (and_right (f k x) (each_from f (suc k) xs) t) i n (omega arith) (le_of_suc-le-suc h)

-- the test passes at each number below n
unfoldable pub all_below : (ℕ → Bool) → ℕ → Bool
all_below test zero = true
all_below test (suc n) = test n && all_below test n

pub below_at : (test : ℕ → Bool) (n : ℕ) → T (all_below test n) → (w : ℕ) → w < n → T (test w)
unfolding all_below
below_at test zero t w h = absurd (not-suc-le-zero h)
below_at test (suc n) t w h =
    ⊎_elim (λ (e : w ≡ n). rw e (and_left (test n) (all_below test n) t))
    (λ (l : w < n). below_at test n (and_right (test n) (all_below test n) t) w l)
    (eq-or-lt_of_le (le_of_suc-le-suc h))

-- the entries are k or more, and each is more than the one before it
unfoldable pub rises : ℕ → List ℕ → Bool
rises k [] = true
rises k (x ∷ xs) = leb k x && rises (suc x) xs

pub rises-first : (k x : ℕ) (xs : List ℕ) → T (rises k (x ∷ xs)) → k ≤ x
unfolding rises
rises-first k x xs t = leb→le k x (and_left (leb k x) (rises (suc x) xs) t)

pub rises_rest : (k x : ℕ) (xs : List ℕ) → T (rises k (x ∷ xs)) → T (rises (suc x) xs)
unfolding rises
rises_rest k x xs t = and_right (leb k x) (rises (suc x) xs) t

pub rises_from : (k n x : ℕ) (xs : List ℕ) → T (rises k (x ∷ xs)) → n ≤ x → T (rises n (x ∷ xs))
unfolding rises
rises_from k n x xs t h = and_of (leb n x) (rises (suc x) xs) (le→leb n x h) (rises_rest k x xs t)

pub rises_least : (k : ℕ) (l : List ℕ) → T (rises k l) → (i : ℕ) → i < length l → k ≤ get_or l i 0
rises_least k [] t i h = absurd (not-suc-le-zero h)
rises_least k (x ∷ xs) t zero h = rises-first k x xs t
rises_least k (x ∷ xs) t (suc i) h =
    let later : suc x ≤ get_or xs i 0 = rises_least (suc x) xs (rises_rest k x xs t) i (le_of_suc-le-suc h) in
    omega (arith, rises-first k x xs t)

pub rises_order : (k : ℕ) (l : List ℕ) → T (rises k l) → (i j : ℕ) → i < j → j < length l → get_or l i 0 < get_or l j 0
rises_order k [] t i j p h = absurd (not-suc-le-zero h)
rises_order k (x ∷ xs) t i zero p h = absurd (not-suc-le-zero p)
rises_order k (x ∷ xs) t zero (suc j) p h = rises_least (suc x) xs (rises_rest k x xs t) j (le_of_suc-le-suc h)
rises_order k (x ∷ xs) t (suc i) (suc j) p h =
    rises_order (suc x) xs (rises_rest k x xs t) i j (le_of_suc-le-suc p) (le_of_suc-le-suc h)

-- the entries at one place of the two lists have the sum n
unfoldable pub sums_to : ℕ → List ℕ → List ℕ → Bool
sums_to n [] ys = true
sums_to n (x ∷ xs) [] = false
sums_to n (x ∷ xs) (y ∷ ys) = eqb (x + y) n && sums_to n xs ys

pub sums_at : (n : ℕ) (xs ys : List ℕ) → T (sums_to n xs ys) → (i : ℕ) → i < length xs → get_or xs i 0 + get_or ys i 0 ≡ n
unfolding sums_to
sums_at n [] ys t i h = absurd (not-suc-le-zero h)
sums_at n (x ∷ xs) [] t i h = absurd t
sums_at n (x ∷ xs) (y ∷ ys) t zero h = eqb→eq (x + y) n (and_left (eqb (x + y) n) (sums_to n xs ys) t)
sums_at n (x ∷ xs) (y ∷ ys) t (suc i) h =
    sums_at n xs ys (and_right (eqb (x + y) n) (sums_to n xs ys) t) i (le_of_suc-le-suc h)

-- an entry of a list that is turned round
past : (l r : List ℕ) (j n : ℕ) → n ≡ length l + j → get_or (reverse_aux l r) n 0 ≡ get_or r j 0
past [] r j n e = ap (λ (m : ℕ). get_or r m 0) (omega arith)
past (x ∷ l) r j n e = past l (x ∷ r) (suc j) n (omega arith)

turned : (l r : List ℕ) (i : ℕ) → i < length l → get_or (reverse_aux l r) i 0 ≡ get_or l (length l - suc i) 0
turned [] r i h = absurd (not-suc-le-zero h)
turned (x ∷ l) r i h = go (turned l (x ∷ r) i) (ltb i (length l)) refl
  where
    go : (i < length l → get_or (reverse_aux l (x ∷ r)) i 0 ≡ get_or l (length l - suc i) 0)
        → (b : Bool) → ltb i (length l) ≡ b → get_or (reverse_aux l (x ∷ r)) i 0 ≡ get_or (x ∷ l) (suc (length l) - suc i) 0
    go ih true p =
        let e : suc (length l) - suc i ≡ suc (length l - suc i) = omega (arith, ltb-true i (length l) p) in
        ih (ltb-true i (length l) p) ∙ ap (λ (m : ℕ). get_or (x ∷ l) m 0) (sym e)
    go ih false p =
        let q : length l ≤ i = ltb-false i (length l) p in
        let e : suc (length l) - suc i ≡ 0 = omega arith in
        past l (x ∷ r) 0 i (omega arith) ∙ ap (λ (m : ℕ). get_or (x ∷ l) m 0) (sym e)

pub reverse-at : (l : List ℕ) (i : ℕ) → i < length l → get_or (reverse l) i 0 ≡ get_or l (length l - suc i) 0
reverse-at l i h = turned l [] i h
