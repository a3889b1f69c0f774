-- Adding the sum and removing it keep the length, give bits, and undo each other, for any number k of blocks. Assumes nothing.
use Rattle.std.proofs.Common.{◌≡◌, ℕ, zero, suc, ◌+◌, ◌-◌, ◌%◌, ◌<◌, ◌≤◌, T, List, ◌++◌, length, drop, refl, ap, ◌∙◌, ap₂, arith, length-append, length-drop, take-append-drop, drop_at}
use Rattle.bits.specs.Bits.{all_bits, bits_of}
use Rattle.bits.specs.Groups.{over_groups}
use Rattle.bits.proofs.AllBits.{all_bits-append, all_bits-drop, all_bits-bits_of}
use Rattle.bits.proofs.Numbers.{length-bits_of}
use Rattle.bits.proofs.Parts.{front_below, front_bits, front_number}
use Rattle.scrambling.specs.Sum.{first_block, with_first_block, sum_of_blocks, sum_of_others, with_sum, without_sum}

-- ---- a block list with another first block

replaced_first : (x : ℕ) (u : List ℕ) → x < 1024 → first_block (with_first_block x u) ≡ x
replaced_first x u h = front_number 10 x (drop 10 u) (with_first_block x u) refl h

replaced_others : (x : ℕ) (u : List ℕ) → drop 10 (with_first_block x u) ≡ drop 10 u
replaced_others x u = drop_at (bits_of 10 x) (drop 10 u) 10 (length-bits_of 10 x)

replaced_own : (u : List ℕ) → T (all_bits u) → 10 ≤ length u → with_first_block (first_block u) u ≡ u
replaced_own u h l = ap (λ (f : List ℕ). f ++ drop 10 u) (front_bits 10 u h l) ∙ take-append-drop 10 u

replaced_length : (x : ℕ) (u : List ℕ) → 10 ≤ length u → length (with_first_block x u) ≡ length u
replaced_length x u l = omega (arith, length-append (bits_of 10 x) (drop 10 u), length-bits_of 10 x, length-drop 10 u)

replaced_bits : (x : ℕ) (u : List ℕ) → T (all_bits u) → T (all_bits (with_first_block x u))
replaced_bits x u h = all_bits-append (bits_of 10 x) (drop 10 u) (all_bits-bits_of 10 x) (all_bits-drop 10 u h)

-- ---- the sum added and removed

sum_split : (k : ℕ) (u : List ℕ) → 1 ≤ k → sum_of_blocks k u ≡ first_block u + sum_of_others k u
unfolding over_groups
sum_split zero u h = absurd (omega arith)
sum_split (suc k) u h =
    let one_less : k ≡ suc k - 1 = omega arith in
    ap (λ (n : ℕ). first_block u + sum_of_blocks n (drop 10 u)) one_less

added : (k x : ℕ) (u : List ℕ) → 1 ≤ k → x < 1024 → with_sum k (with_first_block x u) ≡ with_first_block ((x + sum_of_others k u) % 1024) u
unfolding with_sum
added k x u h small =
    ap₂ (λ (s : ℕ) (l : List ℕ). bits_of 10 (s % 1024) ++ l)
    (sum_split k (with_first_block x u) h ∙ ap₂ (λ (f : ℕ) (l : List ℕ). f + sum_of_blocks (k - 1) l) (replaced_first x u small) (replaced_others x u))
    (replaced_others x u)

removed : (k x : ℕ) (u : List ℕ) → x < 1024 → without_sum k (with_first_block x u) ≡ with_first_block ((x + (1024 - sum_of_others k u % 1024)) % 1024) u
unfolding without_sum
removed k x u small =
    ap₂ (λ (f : ℕ) (l : List ℕ). bits_of 10 ((f + (1024 - sum_of_blocks (k - 1) l % 1024)) % 1024) ++ l) (replaced_first x u small) (replaced_others x u)

pub with_sum-length : (k : ℕ) (u : List ℕ) → 10 ≤ length u → length (with_sum k u) ≡ length u
unfolding with_sum
with_sum-length k u l = replaced_length (sum_of_blocks k u % 1024) u l

pub without_sum-length : (k : ℕ) (v : List ℕ) → 10 ≤ length v → length (without_sum k v) ≡ length v
unfolding without_sum
without_sum-length k v l = replaced_length ((first_block v + (1024 - sum_of_others k v % 1024)) % 1024) v l

pub with_sum_bits : (k : ℕ) (u : List ℕ) → T (all_bits u) → T (all_bits (with_sum k u))
unfolding with_sum
with_sum_bits k u h = replaced_bits (sum_of_blocks k u % 1024) u h

pub without_sum_bits : (k : ℕ) (v : List ℕ) → T (all_bits v) → T (all_bits (without_sum k v))
unfolding without_sum
without_sum_bits k v h = replaced_bits ((first_block v + (1024 - sum_of_others k v % 1024)) % 1024) v h

pub without_sum-with_sum : (k : ℕ) (u : List ℕ) → T (all_bits u) → 1 ≤ k → 10 ≤ length u → without_sum k (with_sum k u) ≡ u
unfolding with_sum
without_sum-with_sum k u h one l =
    let F = first_block u in
    let S = sum_of_blocks k u in
    let O = sum_of_others k u in
    let back : (S % 1024 + (1024 - O % 1024)) % 1024 ≡ F = omega (arith, sum_split k u one, front_below 10 u h) in
    removed k (S % 1024) u (omega arith) ∙ ap (λ (x : ℕ). with_first_block x u) back ∙ replaced_own u h l

pub with_sum-without_sum : (k : ℕ) (v : List ℕ) → T (all_bits v) → 1 ≤ k → 10 ≤ length v → with_sum k (without_sum k v) ≡ v
unfolding without_sum
with_sum-without_sum k v h one l =
    let F = first_block v in
    let O = sum_of_others k v in
    let x = (F + (1024 - O % 1024)) % 1024 in
    let back : (x + O) % 1024 ≡ F = omega (arith, front_below 10 v h) in
    added k x v one (omega arith) ∙ ap (λ (y : ℕ). with_first_block y v) back ∙ replaced_own v h l
