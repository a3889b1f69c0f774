-- What looking a word up finds (document 02, No. 13): of the 2,048 words 1,024 have a number, 250 and 20 are in the groups, and 754 are simply
-- not in the table, each count computed in one pass over the inverse table; a barred word is found with its group; and a flipped word is of the
-- same kind. Assumes nothing.
use mathlib.Core.Path.{◌≡◌, refl, sym, ap, ap₂, subst, ◌∙◌}
use mathlib.Core.Bool.{Bool, true, false, true≢false}
use mathlib.Core.List.{List, [], ◌∷◌}
use Prim.Native.Nat.{ℕ, zero, suc, ◌+◌, ◌-◌, ◌<◌}
use native.Mathlib.Omega.{arith}
use lib.Dec.{T, eqb}
use lib.ListN.{length, get_or}
use Rattle.words.specs.declared.Kind.{Kind}
use Rattle.words.specs.declared.Kind.TheVariants.{Group250, Group20, Other}
use Rattle.words.specs.Table.{table}
use Rattle.words.specs.Words.{word_of, in_group250, barred20, among, in_group20, kind_of, kind_number, lookup_of, in_table, one_more_if, how_many}
use Rattle.bits.proofs.Tests.{tests_agree}
use Rattle.words.proofs.Lists.{all_below, below_at}
use Rattle.words.proofs.Rules.{flips}
use Rattle.words.proofs.Numbers.{lookup_word, lookup_number, lookup_absent}
use Rattle.words.proofs.InverseTable.{says, inverse, inverse_from, inverse-tells, inverse-length}
use Rattle.words.proofs.Groups.{not_barred, groups_disjoint}
use Rattle.std.specs.Prelude.{Result, Ok, Err, is_ok}

-- ---- counting from the front

swap : (a b : Bool) (n : ℕ) → one_more_if a (one_more_if b n) ≡ one_more_if b (one_more_if a n)
swap true true n = refl
swap true false n = refl
swap false true n = refl
swap false false n = refl

front : (test : ℕ → Bool) (n : ℕ) → how_many test (suc n) ≡ one_more_if (test 0) (how_many (λ i. test (suc i)) n)
unfolding how_many
front test zero = refl
front test (suc n) = ap (one_more_if (test (suc n))) (front test n) ∙ swap (test (suc n)) (test 0) (how_many (λ i. test (suc i)) n)

-- how many entries of the list, each with its place, counted from k, pass the test
unfoldable tally : (ℕ → ℕ → Bool) → ℕ → List ℕ → ℕ
tally test k [] = 0
tally test k (x ∷ xs) = one_more_if (test k x) (tally test (suc k) xs)

tallied : (test : ℕ → ℕ → Bool) (k : ℕ) (l : List ℕ) (f : ℕ → Bool) → ((i : ℕ) → i < length l → f i ≡ test (k + i) (get_or l i 0))
    → how_many f (length l) ≡ tally test k l
unfolding how_many tally
tallied test k [] f h = refl
tallied test k (x ∷ xs) f h =
    let place : k + 0 ≡ k = omega arith in
    front f (length xs)
    ∙ ap₂ one_more_if (h 0 (omega arith) ∙ ap (λ (p : ℕ). test p x) place)
    (tallied test (suc k) xs (λ i. f (suc i)) (λ i below.
    let next : k + suc i ≡ suc k + i = omega arith in
    h (suc i) (omega arith) ∙ ap (λ (p : ℕ). test p (get_or xs i 0)) next))

-- ---- the four cases

-- a word of this kind was looked up
abbrev pub is_kind : Kind → Result ℕ Kind → Bool
is_kind kind (Ok i) = false
is_kind kind (Err found) = eqb (kind_number found) (kind_number kind)

-- of how many words a test passes what is found
by_inverse : (test : Result ℕ Kind → Bool) → how_many (λ w. test (lookup_of w)) 2048 ≡ tally (λ w n. test (says w n)) 0 inverse
by_inverse test =
    subst (λ (n : ℕ). how_many (λ w. test (lookup_of w)) n ≡ tally (λ w n. test (says w n)) 0 inverse) inverse-length
    (tallied (λ w n. test (says w n)) 0 inverse (λ w. test (lookup_of w)) (λ i below.
    let same : 0 + i ≡ i = omega arith in
    ap test (inverse-tells i (omega (arith, inverse-length))) ∙ ap (λ (p : ℕ). test (says p (get_or inverse i 0))) (sym same)))

pub numbers-found : how_many in_table 2048 ≡ 1024
unfolding tally inverse inverse_from table
numbers-found = by_inverse is_ok

pub group250-found : how_many (λ w. is_kind Group250 (lookup_of w)) 2048 ≡ 250
unfolding tally inverse inverse_from table kind_of in_group250 in_group20 among barred20
group250-found = by_inverse (is_kind Group250)

pub group20-found : how_many (λ w. is_kind Group20 (lookup_of w)) 2048 ≡ 20
unfolding tally inverse inverse_from table kind_of in_group250 in_group20 among barred20
group20-found = by_inverse (is_kind Group20)

pub others_found : how_many (λ w. is_kind Other (lookup_of w)) 2048 ≡ 754
unfolding tally inverse inverse_from table kind_of in_group250 in_group20 among barred20
others_found = by_inverse (is_kind Other)

-- ---- a barred word is not in the table, and is found with its group

-- an entry is in neither group
entry_free : (group : ℕ → Bool) (w : ℕ) → ((i : ℕ) → i < 1024 → group (word_of i) ≡ false) → group w ≡ true → in_table w ≡ false
entry_free group w free h = go (lookup_of w) refl
  where
    go : (r : Result ℕ Kind) → lookup_of w ≡ r → is_ok r ≡ false
    go (Err kind) e = refl
    go (Ok i) e =
        let (below, is) = lookup_number w i e in
        absurd (true≢false (sym h ∙ ap group (sym is) ∙ free i below))

pub barred250_found : (w : ℕ) → in_group250 w ≡ true → lookup_of w ≡ Err Group250
unfolding kind_of
barred250_found w h = lookup_absent w (entry_free in_group250 w (λ i below. (not_barred i below).0) h) ∙ rw h

pub barred20-found : (w : ℕ) → in_group20 w ≡ true → lookup_of w ≡ Err Group20
unfolding kind_of
barred20-found w h = lookup_absent w (entry_free in_group20 w (λ i below. (not_barred i below).1) h) ∙ rw (groups_disjoint w h, h)

-- ---- a flipped word is in the table where the word is, and of the same kind

flip-listed : (w : ℕ) → T (in_table w) → T (in_table (2047 - w))
flip-listed w h = go (lookup_of w) refl h
  where
    go : (r : Result ℕ Kind) → lookup_of w ≡ r → T (is_ok r) → T (in_table (2047 - w))
    go (Err kind) e t = absurd t
    go (Ok i) e t =
        let (below, is) = lookup_number w i e in
        let flipped : 2047 - w ≡ word_of (1023 - i) = ap (λ (v : ℕ). 2047 - v) (sym is) ∙ sym (flips i below) in
        subst (λ (r : Result ℕ Kind). T (is_ok r)) (sym (ap lookup_of flipped ∙ lookup_word (1023 - i) (omega arith))) tt

pub flip-in_table : (w : ℕ) → w < 2048 → in_table (2047 - w) ≡ in_table w
flip-in_table w h =
    let twice : 2047 - (2047 - w) ≡ w = omega arith in
    tests_agree (in_table (2047 - w)) (in_table w) (λ t. subst (λ (v : ℕ). T (in_table v)) twice (flip-listed (2047 - w) t)) (flip-listed w)

same_kind : (a b : Kind) → T (eqb (kind_number a) (kind_number b)) → a ≡ b
same_kind Group250 Group250 t = refl
same_kind Group250 Group20 t = absurd t
same_kind Group250 Other t = absurd t
same_kind Group20 Group250 t = absurd t
same_kind Group20 Group20 t = refl
same_kind Group20 Other t = absurd t
same_kind Other Group250 t = absurd t
same_kind Other Group20 t = absurd t
same_kind Other Other t = refl

abbrev flips_alike : ℕ → Bool
flips_alike w = eqb (kind_number (kind_of (2047 - w))) (kind_number (kind_of w))

flips_alike_lem : T (all_below flips_alike 2048)
unfolding all_below kind_of in_group250 in_group20 among barred20
flips_alike_lem = tt

pub flip_kind : (w : ℕ) → w < 2048 → kind_of (2047 - w) ≡ kind_of w
flip_kind w h = same_kind (kind_of (2047 - w)) (kind_of w) (below_at flips_alike 2048 flips_alike_lem w h)

-- ---- the kinds' numbers are those of a byte

pub kind_small : (kind : Kind) → kind_number kind < 256
kind_small Group250 = omega arith
kind_small Group20 = omega arith
kind_small Other = omega arith
