-- The barred words (document 01, "Words"): 250 and 20 of the 2,048 words, none in both groups, none in the table.
-- Each is one computed test. Assumes nothing.
use mathlib.Core.Path.{◌≡◌, refl, subst}
use mathlib.Core.Bool.{Bool, true, false, not, false≢true, ◌||◌}
use mathlib.Core.List.{List, [], ◌∷◌}
use Prim.Native.Nat.{ℕ, ◌<◌}
use lib.Dec.{T, eqb}
use lib.ListN.{get_or, take, drop}
use borrow.Author.Tests.{eqb-true}
use Rattle.words.specs.Table.{table}
use Rattle.words.specs.Words.{word_of, in_group250, in_group20, barred20, among, how_many}
use Rattle.bits.proofs.And.{and_left, and_right}
use Rattle.words.proofs.Lists.{every, every-at, sums_to, fails}
use Rattle.words.proofs.Rules.{within}

pub group250_size : how_many in_group250 2048 ≡ 250
unfolding how_many in_group250
group250_size = refl

pub group20_size : how_many in_group20 2048 ≡ 20
unfolding how_many in_group20 among barred20
group20_size = refl

-- the last ten of the 20 are the flips of the first ten
pub barred20_flips : T (sums_to 2047 (take 10 barred20) (drop 10 barred20))
unfolding sums_to barred20
barred20_flips = tt

abbrev not250 : ℕ → Bool
not250 x = not (in_group250 x)

abbrev not20 : ℕ → Bool
not20 x = not (in_group20 x)

table-not250 : T (every not250 table)
unfolding every table in_group250
table-not250 = tt

table-not20 : T (every not20 table)
unfolding every table in_group20 among barred20
table-not20 = tt

pub not_barred : (i : ℕ) → i < 1024 → (in_group250 (word_of i) ≡ false) × (in_group20 (word_of i) ≡ false)
unfolding word_of
not_barred i h = (
  fails (in_group250 (get_or table i 0)) (every-at not250 table table-not250 i (within i h)),
  fails (in_group20 (get_or table i 0)) (every-at not20 table table-not20 i (within i h)),
)

-- what holds of each entry holds of a word that is among them
pub at_member : (f : ℕ → Bool) (w : ℕ) (l : List ℕ) → T (every f l) → among w l ≡ true → T (f w)
unfolding every among
at_member f w [] t e = absurd (false≢true e)
at_member f w (x ∷ xs) t e = go (at_member f w xs (and_right (f x) (every f xs) t)) (eqb x w) refl e
  where
    go : (among w xs ≡ true → T (f w)) → (b : Bool) → eqb x w ≡ b → b || among w xs ≡ true → T (f w)
    go ih true p q = subst (λ (v : ℕ). T (f v)) (eqb-true x w p) (and_left (f x) (every f xs) t)
    go ih false p q = ih q

barred_not250 : T (every not250 barred20)
unfolding every barred20 in_group250
barred_not250 = tt

pub groups_disjoint : (w : ℕ) → in_group20 w ≡ true → in_group250 w ≡ false
unfolding in_group20
groups_disjoint w e = fails (in_group250 w) (at_member not250 w barred20 barred_not250 e)
