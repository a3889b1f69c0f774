-- A list gone through in groups of w elements: some groups and then more, the next group, what stands after them, and groups of groups; what
-- the groups become, its length and its bits; and groups that pass a test, or stay as they are. Assumes nothing.
use mathlib.Core.Path.{◌≡◌, refl, sym, ap, ap₂, ◌∙◌}
use mathlib.Core.Bool.{Bool}
use mathlib.Core.List.{List, [], ◌++◌, append-nil, append_assoc}
use Prim.Native.Nat.{ℕ, zero, suc, ◌+◌, ◌-◌, ◌*◌, ◌≤◌, ◌<◌}
use native.Mathlib.Nat.{zero-add, suc-add, add_comm, mul-zero, mul-suc, le_of_suc-le-suc, not-suc-le-zero}
use native.Mathlib.Omega.{arith}
use lib.Dec.{T}
use lib.ListN.{length, take, drop, length-append, length-drop}
use lib.Seq.{take-add, take-append-le, drop-append-le}
use Rattle.bits.specs.Bits.{all_bits}
use Rattle.bits.specs.Groups.{over_groups, each_group, every_group}
use Rattle.bits.proofs.AllBits.{all_bits-nil, all_bits-append, all_bits-drop}
use Rattle.bits.proofs.And.{and_left, and_right, and_of}
use Rattle.bits.proofs.Parts.{front_is, rest_is, drop_from}
use Rattle.bits.proofs.Rest.{count_more, count_done}

-- one group and k more
one_more : (w k : ℕ) → w + w * k ≡ w * suc k
one_more w k = add_comm w (w * k) ∙ sym (mul-suc w k)

-- ---- what is told of the groups

module _ {A : Type 0} (op : A → A → A) (e : A) (f : List ℕ → A) (w : ℕ) where
  -- first j groups, then k more
  pub groups_add : ((a : A) → op e a ≡ a) → ((a b c : A) → op (op a b) c ≡ op a (op b c)) → (j k : ℕ) (s : List ℕ)
      → over_groups op e f w (j + k) s ≡ op (over_groups op e f w j s) (over_groups op e f w k (drop (w * j) s))
  unfolding over_groups
  groups_add unit assoc zero k s = rw (zero-add, mul-zero) (sym (unit (over_groups op e f w k s)))
  groups_add unit assoc (suc j) k s =
      let group = f (take w s) in
      let others = over_groups op e f w j (drop w s) in
      rw (suc-add j k, drop_from w (w * j) (w * suc j) s (one_more w j))
      (ap (op group) (groups_add unit assoc j k (drop w s)) ∙ sym (assoc group others (over_groups op e f w k (drop (w * j) (drop w s)))))

  -- of k groups the next after j, and the rest after it
  pub groups_next : (k j : ℕ) (s : List ℕ) → j < k
      → over_groups op e f w (k - j) (drop (w * j) s)
      ≡ op (f (take w (drop (w * j) s))) (over_groups op e f w (k - (j + 1)) (drop (w * (j + 1)) s))
  unfolding over_groups
  groups_next k j s h =
      let place : w * j + w ≡ w * (j + 1) = omega arith in
      rw (count_more h, drop_from (w * j) w (w * (j + 1)) s place)

  -- no group is left
  pub groups_done : (k j : ℕ) (s : List ℕ) → k ≤ j → over_groups op e f w (k - j) s ≡ e
  unfolding over_groups
  groups_done k j s h = rw (count_done h)

  -- what stands after the groups does not count
  pub groups_front : (k : ℕ) (s rest : List ℕ) → w * k ≤ length s → over_groups op e f w k (s ++ rest) ≡ over_groups op e f w k s
  unfolding over_groups
  groups_front zero s rest h = refl
  groups_front (suc k) s rest h =
      let within : w ≤ length s = omega arith in
      ap₂ (λ (group others : List ℕ). op (f group) (over_groups op e f w k others)) (take-append-le w s rest within) (drop-append-le w s rest within)
      ∙ ap (op (f (take w s))) (groups_front k (drop w s) rest (omega (arith, length-drop w s)))

-- ---- what the groups become

module _ (f : List ℕ → List ℕ) (w : ℕ) where
  -- first j groups, then one more
  pub groups_more : (j : ℕ) (s : List ℕ) → each_group f w (j + 1) s ≡ each_group f w j s ++ f (take w (drop (w * j) s))
  unfolding over_groups
  groups_more j s =
      groups_add ◌++◌ [] f w (λ a. refl) append_assoc j 1 s ∙ ap (λ (l : List ℕ). each_group f w j s ++ l) (append-nil (f (take w (drop (w * j) s))))

  pub groups_bits : ((s : List ℕ) → T (all_bits (f s))) → (k : ℕ) (s : List ℕ) → T (all_bits (each_group f w k s))
  unfolding over_groups
  groups_bits h zero s = all_bits-nil
  groups_bits h (suc k) s = all_bits-append (f (take w s)) (each_group f w k (drop w s)) (h (take w s)) (groups_bits h k (drop w s))

-- each becomes v elements
module _ (f : List ℕ → List ℕ) (w v : ℕ) (size : (s : List ℕ) → length (f s) ≡ v) where
  pub length_groups : (k : ℕ) (s : List ℕ) → length (each_group f w k s) ≡ v * k
  unfolding over_groups
  length_groups zero s = sym (mul-zero v)
  length_groups (suc k) s =
      length-append (f (take w s)) (each_group f w k (drop w s)) ∙ ap₂ ◌+◌ (size (take w s)) (length_groups k (drop w s)) ∙ one_more v k

  -- the first j of more groups, whatever stands after them
  pub first_groups : (j k : ℕ) (s rest : List ℕ) → take (v * j) (each_group f w (j + k) s ++ rest) ≡ each_group f w j s
  first_groups j k s rest =
      let others = each_group f w k (drop (w * j) s) in
      front_is (each_group f w j s) (others ++ rest) _ (v * j) (length_groups j s)
      (ap (λ (l : List ℕ). l ++ rest) (groups_add ◌++◌ [] f w (λ a. refl) append_assoc j k s) ∙ append_assoc (each_group f w j s) others rest)

  -- what g tells of those is what g after f tells
  pub groups_of_groups : {A : Type 0} (op : A → A → A) (e : A) (g : List ℕ → A) (k : ℕ) (s rest : List ℕ)
      → over_groups op e g v k (each_group f w k s ++ rest) ≡ over_groups op e (λ x. g (f x)) w k s
  unfolding over_groups
  groups_of_groups op e g zero s rest = refl
  groups_of_groups op e g (suc k) s rest =
      let group = f (take w s) in
      let others = each_group f w k (drop w s) ++ rest in
      let split = append_assoc group (each_group f w k (drop w s)) rest in
      ap₂ (λ (x l : List ℕ). op (g x) (over_groups op e g v k l))
      (front_is group others _ v (size (take w s)) split)
      (rest_is group others _ v (size (take w s)) split)
      ∙ ap (op (g group)) (groups_of_groups op e g k (drop w s) rest)

-- ---- groups of bits that pass a test

module _ (test : List ℕ → Bool) (w : ℕ) where
  pub every_group_lem : ((s : List ℕ) → T (all_bits s) → T (test (take w s))) → (k : ℕ) (s : List ℕ) → T (all_bits s) → T (every_group test w k s)
  unfolding over_groups
  every_group_lem passes zero s bits = tt
  every_group_lem passes (suc k) s bits =
      and_of (test (take w s)) (every_group test w k (drop w s)) (passes s bits) (every_group_lem passes k (drop w s) (all_bits-drop w s bits))

  -- where all of them do, each does
  pub every-at : (k : ℕ) (s : List ℕ) → T (every_group test w k s) → (i : ℕ) → i < k → T (test (take w (drop (w * i) s)))
  unfolding over_groups
  every-at zero s h i below = absurd (not-suc-le-zero below)
  every-at (suc k) s h zero below = rw mul-zero (and_left (test (take w s)) (every_group test w k (drop w s)) h)
  every-at (suc k) s h (suc i) below =
      rw (drop_from w (w * i) (w * suc i) s (one_more w i))
      (every-at k (drop w s) (and_right (test (take w s)) (every_group test w k (drop w s)) h) i (le_of_suc-le-suc below))

  -- f leaves such a group as it is
  pub groups_stay : (f : List ℕ → List ℕ) → ((s : List ℕ) → T (all_bits s) → w ≤ length s → T (test (take w s)) → f (take w s) ≡ take w s)
      → (k : ℕ) (s : List ℕ) → T (all_bits s) → w * k ≤ length s → T (every_group test w k s) → each_group f w k s ≡ take (w * k) s
  unfolding over_groups
  groups_stay f stays zero s bits within h = rw mul-zero
  groups_stay f stays (suc k) s bits within h =
      let here = test (take w s) in
      let later = every_group test w k (drop w s) in
      ap₂ ◌++◌ (stays s bits (omega arith) (and_left here later h))
      (groups_stay f stays k (drop w s) (all_bits-drop w s bits) (omega (arith, length-drop w s)) (and_right here later h))
      ∙ sym (take-add w (w * k) s) ∙ ap (λ (i : ℕ). take i s) (one_more w k)
