-- The longest run of a list: between what stands before it and its length, cut by an invalid word, and against a limit: where two lists
-- overlap in as many words as the limit, no run of both together exceeds it unless one of either does; so a ring needs no more words than its
-- own and the limit's. Assumes nothing.
use mathlib.Core.Path.{◌≡◌, refl}
use mathlib.Core.Bool.{Bool, true, false}
use mathlib.Core.List.{List, [], ◌∷◌, ◌++◌, append_assoc}
use Prim.Native.Nat.{ℕ, suc, max, ◌+◌, ◌≤◌}
use native.Mathlib.Omega.{arith}
use lib.Dec.{leb, leb→le, le→leb}
use lib.ListN.{length}
use Rattle.bits.proofs.Tests.{tests_agree}
use Rattle.conditions.specs.Runs.{longest_after, longest, longest_round}

-- at least what stands before
pub longest_least : (c : ℕ) (s : List Bool) → c ≤ longest_after c s
unfolding longest_after
longest_least c [] = omega arith
longest_least c (true ∷ s) = omega (arith, longest_least (suc c) s)
longest_least c (false ∷ s) = omega arith

-- at most all
pub longest_most : (c : ℕ) (s : List Bool) → longest_after c s ≤ c + length s
unfolding longest_after
longest_most c [] = omega arith
longest_most c (true ∷ s) = omega (arith, longest_most (suc c) s)
longest_most c (false ∷ s) = omega (arith, longest_most 0 s)

-- at least that of the front
pub longest-front : (c : ℕ) (x y : List Bool) → longest_after c x ≤ longest_after c (x ++ y)
unfolding longest_after
longest-front c [] y = longest_least c y
longest-front c (true ∷ x) y = longest-front (suc c) x y
longest-front c (false ∷ x) y = omega (arith, longest-front 0 x y)

-- an invalid word cuts
longest-cut : (c : ℕ) (x y : List Bool) → longest_after c (x ++ false ∷ y) ≡ max (longest_after c x) (longest_after 0 y)
unfolding longest_after
longest-cut c [] y = refl
longest-cut c (true ∷ x) y = longest-cut (suc c) x y
longest-cut c (false ∷ x) y = omega (arith, longest-cut 0 x y)

module _ (limit : ℕ) where
  -- c words before y, or d of them: where y and d reach the limit it is the same
  overlap_after : (c d : ℕ) (y z : List Bool) → d ≤ c → limit ≤ d + length y
      → longest_after c y ≤ limit → longest_after d (y ++ z) ≤ limit → longest_after c (y ++ z) ≤ limit
  unfolding longest_after
  overlap_after c d [] z few reach front back =
      let same : c ≡ d = omega arith in
      rw same back
  overlap_after c d (true ∷ y) z few reach front back =
      overlap_after (suc c) (suc d) y z (omega arith) (omega arith) front back
  overlap_after c d (false ∷ y) z few reach front back = omega arith

  overlap : (c : ℕ) (x y z : List Bool) → limit ≤ length y
      → longest_after c (x ++ y) ≤ limit → longest (y ++ z) ≤ limit → longest_after c (x ++ (y ++ z)) ≤ limit
  unfolding longest_after
  overlap c [] y z reach front back = overlap_after c 0 y z (omega arith) (omega arith) front back
  overlap c (true ∷ x) y z reach front back = overlap (suc c) x y z reach front back
  overlap c (false ∷ x) y z reach front back = omega (arith, overlap 0 x y z reach (omega arith) back)

  -- no more words than the limit, and then an invalid one: what follows decides
  pub within_cut : (x y : List Bool) → length x ≤ limit → leb (longest (x ++ false ∷ y)) limit ≡ leb (longest y) limit
  within_cut x y few =
      let cut = longest-cut 0 x y in
      let most = longest_most 0 x in
      tests_agree (leb (longest (x ++ false ∷ y)) limit) (leb (longest y) limit)
      (λ t. le→leb _ limit (omega (arith, leb→le _ limit t, cut)))
      (λ t. le→leb _ limit (omega (arith, leb→le (longest y) limit t, cut, most, few)))

  -- a ring whose words are y and then z: once round, and y once more
  pub round_once_more : (y z : List Bool) → limit ≤ length y → leb (longest_round (y ++ z)) limit ≡ leb (longest ((y ++ z) ++ y)) limit
  round_once_more y z reach =
      let s = y ++ z in
      let more : longest (s ++ y) ≤ longest_round s = rw (← append_assoc s y z) (longest-front 0 (s ++ y) z) in
      tests_agree (leb (longest_round s) limit) (leb (longest (s ++ y)) limit)
      (λ t. le→leb _ limit (omega (arith, leb→le _ limit t, more)))
      (λ t.
      let front = leb→le (longest (s ++ y)) limit t in
      le→leb _ limit (overlap 0 s y z reach front (omega (arith, longest-front 0 s y))))
