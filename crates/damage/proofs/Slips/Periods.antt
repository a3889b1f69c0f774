-- Words that stand in bits with a short period, computed: no word has a period from 1 to 4, and no six neighbouring words have one from 1 to 10
-- together. So as many neighbouring bits of a telegram going round as surely hold so many words are not the same as those s places on.
-- Assumes nothing.
use Prim.Native.Nat.{ℕ, zero, suc, ◌+◌, ◌-◌, ◌*◌, ◌/◌, ◌%◌, ◌^◌, ◌≤◌, ◌<◌}
use mathlib.Core.Bool.{Bool, not}
use mathlib.Core.Path.{◌≡◌, refl, sym, ap, ap₂, subst, ◌∙◌}
use mathlib.Core.List.{List}
use mathlib.Core.Logic.{◌⊎◌, inl, inr}
use native.Mathlib.Nat.{zero-add, zero-mul, suc-mul, mod-lt, mod-add-div', div-add-mod'}
use native.Mathlib.Omega.{arith}
use lib.Dec.{T, T_not, lit≤}
use lib.ListN.{length, get_or, take, drop}
use lib.Seq.{ext_get_or, get_or-take, get_or-drop, length-take-le}
use Rattle.bits.specs.Bits.{all_bits, number_from, number_of, bits_of, around}
use Rattle.bits.proofs.AllBits.{all_bits-take}
use Rattle.bits.proofs.And.{and_of}
use Rattle.bits.proofs.Groups.{every-at}
use Rattle.bits.proofs.Numbers.{number_of_below, bits_of-number_of}
use Rattle.bits.proofs.Ring.{length-around, all_bits-around, get_or-around, take-around, drop-around, around_rounds, around_strip}
use Rattle.formats.specs.Numbers.{Numbers}
use Rattle.formats.proofs.Sizes.{Sizes}
use Rattle.words.specs.PartsOf64.{present}
use Rattle.words.specs.Words.{is_word}
use Rattle.words.proofs.Lists.{all_below, below_at}
use Rattle.words.proofs.Ranks.{any_bit_tells}
use Rattle.telegrams.proofs.WellFormed.{WellFormed}
use Rattle.reader.specs.Windows.{oriented}
use Rattle.reader.proofs.Windows.{oriented_twice, cut_is, cut-oriented}
use Rattle.witnesses.proofs.Twice.{known}
use Rattle.damage.specs.Slips.{slip_limit, slip_reach, far_slip_limit, far_slip_reach}
use Rattle.damage.proofs.Slips.Stretches.{stretch, stretch-around}

-- ---- bits with a period

-- k bits of which each is the one s places on, as far as there is one
module _ (k s : ℕ) (l : List ℕ) (size : length l ≡ k) (some : 1 ≤ s) (within : s ≤ k) (e : take (k - s) l ≡ drop s l) where
  -- q times s places on
  rounds_on : (j q : ℕ) → j + q * s < k → get_or l (j + q * s) 0 ≡ get_or l j 0
  rounds_on j zero below = ap (λ (i : ℕ). get_or l i 0) (omega (arith, zero-mul s))
  rounds_on j (suc q) below =
      let back : ℕ = j + q * s in
      let place : j + suc q * s ≡ s + back = omega (arith, suc-mul q s) in
      ap (λ (i : ℕ). get_or l i 0) place ∙ sym (get_or-drop s l back 0) ∙ ap (λ (x : List ℕ). get_or x back 0) (sym e)
      ∙ get_or-take (k - s) l back 0 (omega (arith, suc-mul q s)) ∙ rounds_on j q (omega (arith, suc-mul q s))

  -- so they are the first s of them going round
  period_round : l ≡ around k 0 (take s l)
  period_round =
      let u = take s l in
      let first : length u ≡ s = length-take-le s l (omega arith) in
      ext_get_or 0 l (around k 0 u) (size ∙ sym (length-around k 0 u)) λ i below.
      let inside : i % s + i / s * s < k = omega (arith, mod-add-div' i s) in
      let place : (0 + i) % length u ≡ i % s = ap₂ ◌%◌ (zero-add i) first in
      ap (λ (j : ℕ). get_or l j 0) (sym (mod-add-div' i s)) ∙ rounds_on (i % s) (i / s) inside ∙ sym (get_or-take s l (i % s) 0 (mod-lt i some))
      ∙ ap (λ (j : ℕ). get_or u j 0) (sym place) ∙ sym (get_or-around k 0 u i (omega arith))

-- ---- words

-- the bits of u going round are words of the table, from each of the first m multiples of 11 on
abbrev words_round : ℕ → List ℕ → Bool
words_round m u = all_below (λ i. known (number_of (around 11 (11 * i) u))) m

-- of no s bits are there so many, for s from 1 to the limit
unfoldable pub no_period : ℕ → ℕ → Bool
no_period limit m = all_below (λ i. all_below (λ x. not (words_round m (bits_of (suc i) x))) (2 ^ suc i)) limit

-- no word has a period from 1 to 4
word_periods : T (no_period slip_limit 1)
unfolding no_period all_below bits_of around number_from
word_periods = tt

-- no six neighbouring words have one from 1 to 10
six_periods : T (no_period far_slip_limit 6)
unfolding no_period all_below bits_of around number_from
six_periods = tt

-- a word is known by one bit
known_is : (w : List ℕ) → known (number_of w) ≡ is_word w
unfolding is_word
known_is w = any_bit_tells (number_of w) (get_or present (number_of w / 64) 0) refl

-- the test passes at each number below n where it does at each
pass_below : (test : ℕ → Bool) (n : ℕ) → ((i : ℕ) → i < n → T (test i)) → T (all_below test n)
unfolding all_below
pass_below test zero h = tt
pass_below test (suc n) h = and_of (test n) (all_below test n) (h n (omega arith)) (pass_below test n (λ i below. h i (omega arith)))

-- so s bits going round do not hold m words
round_period : (limit m : ℕ) → T (no_period limit m) → (u : List ℕ) → T (all_bits u) → 1 ≤ length u → length u ≤ limit
    → ((i : ℕ) → i < m → T (is_word (around 11 (11 * i) u))) → ⊥
unfolding no_period
round_period limit m rule u bits some few words = go (length u) refl some few
  where
    go : (s : ℕ) → length u ≡ s → 1 ≤ s → s ≤ limit → ⊥
    go zero size some few = omega arith
    go (suc i) size some few =
        let x = number_of u in
        let below : x < 2 ^ suc i = subst (λ (j : ℕ). x < 2 ^ j) size (number_of_below u bits) in
        let of_size = below_at (λ i. all_below (λ x. not (words_round m (bits_of (suc i) x))) (2 ^ suc i)) limit rule i few in
        let none = below_at (λ x. not (words_round m (bits_of (suc i) x))) (2 ^ suc i) of_size x below in
        T_not (words_round m u) (rw (bits_of-number_of (suc i) u bits size) at none)
        (pass_below (λ i. known (number_of (around 11 (11 * i) u))) m (λ i inside. rw (known_is (around 11 (11 * i) u)) (words i inside)))

-- ---- the ring of a telegram

-- no m neighbouring words have a period from 1 to `limit` together, and so many bits as `reach` hold them wherever they stand
pub record Rule (limit reach : ℕ) : Type 0 where
  pub m : ℕ
  pub some : 1 ≤ m
  pub short : limit ≤ 10
  pub enough : 11 * m + 10 ≤ reach
  pub none : T (no_period limit m)

pub near_rule : Rule slip_limit slip_reach
near_rule = record { m = 1; some = lit≤ tt; short = lit≤ tt; enough = lit≤ tt; none = word_periods }

pub far_rule : Rule far_slip_limit far_slip_reach
far_rule = record { m = 6; some = lit≤ tt; short = lit≤ tt; enough = lit≤ tt; none = six_periods }

module _ (F : Numbers) (S : Sizes F) (b : List ℕ) (form : WellFormed F b) where
  -- at every multiple of 11, going round, stands a word
  word_round : (j : ℕ) → T (is_word (around 11 (11 * j) b))
  word_round j =
      let i : ℕ = j % F.words in
      let some : 0 < F.words = omega (arith, S.words_are) in
      let inside : i < F.words = mod-lt j some in
      let strip : 11 * i + 11 ≤ length b = omega (arith, S.words_are, S.n_is, form.size) in
      let size : length b ≡ 11 * F.words = omega (arith, S.words_are, S.n_is, form.size) in
      let place : 11 * j ≡ 11 * i + (j / F.words) * length b = rw size (omega (arith, div-add-mod' j F.words)) in
      let word : around 11 (11 * j) b ≡ take 11 (drop (11 * i) b) =
      ap (λ (p : ℕ). around 11 p b) place ∙ around_rounds 11 (11 * i) (j / F.words) b ∙ around_strip 11 (11 * i) b strip in
      rw word (every-at is_word 11 F.words b form.words_in_table i inside)

  module _ (limit reach : ℕ) (rule : Rule limit reach) (s : ℕ) (some : 1 ≤ s) (few : s ≤ limit) where
    -- m words from the j-th on have no period s together
    words_period : (j : ℕ) → around (11 * rule.m - s) (11 * j) b ≡ around (11 * rule.m - s) (11 * j + s) b → ⊥
    words_period j e =
        let m = rule.m in
        let k : ℕ = 11 * m in
        let l = around k (11 * j) b in
        let u = take s l in
        let inside : s ≤ k = omega (arith, rule.some, rule.short) in
        let front : k ≡ (k - s) + s = omega arith in
        let back : k ≡ s + (k - s) = omega arith in
        let periodic : take (k - s) l ≡ drop s l =
        ap (λ (i : ℕ). take (k - s) (around i (11 * j) b)) front ∙ take-around (k - s) s (11 * j) b ∙ e
        ∙ sym (ap (λ (i : ℕ). drop s (around i (11 * j) b)) back ∙ drop-around s (k - s) (11 * j) b) in
        let round : l ≡ around k 0 u = period_round k s l (length-around k (11 * j) b) some inside periodic in
        let size : length u ≡ s = length-take-le s l (omega (arith, length-around k (11 * j) b)) in
        round_period limit m rule.none u (all_bits-take s l (all_bits-around k (11 * j) b form.bits)) (omega arith) (omega arith)
        (λ i below.
        let within : 11 * i + 11 ≤ k = omega arith in
        let here : 11 * j + 11 * i ≡ 11 * (j + i) = omega arith in
        let word : around 11 (11 * i) u ≡ around 11 (11 * (j + i)) b =
        ap (λ (p : ℕ). around 11 p u) (sym (zero-add (11 * i))) ∙ sym (stretch-around 11 (11 * i) k 0 u within) ∙ ap (stretch 11 (11 * i)) (sym round)
        ∙ stretch-around 11 (11 * i) k (11 * j) b within ∙ ap (λ (p : ℕ). around 11 p b) here in
        rw word (word_round (j + i)))

    -- so many neighbouring bits have these words among them: they are not those s places on
    ring_period : (p : ℕ) → around (reach - s) p b ≡ around (reach - s) (p + s) b → ⊥
    ring_period p e =
        let k : ℕ = 11 * rule.m - s in
        let j : ℕ = (p + 10) / 11 in
        let i : ℕ = 11 * j - p in
        let within : i + k ≤ reach - s = omega (arith, rule.some, rule.short, rule.enough) in
        let here : p + i ≡ 11 * j = omega arith in
        let there : p + s + i ≡ 11 * j + s = omega arith in
        words_period j
        (rw (here, there) at
        (sym (stretch-around k i (reach - s) p b within) ∙ ap (stretch k i) e ∙ stretch-around k i (reach - s) (p + s) b within))

    -- nor, upright or flipped, those s places on or back
    pub apart_differ : (flipped : Bool) (p q : ℕ) → (p ≡ q + s) ⊎ (q ≡ p + s)
        → around (reach - s) p (oriented flipped b) ≡ around (reach - s) q (oriented flipped b) → ⊥
    apart_differ flipped p q apart same = go apart (upright p ∙ ap (oriented flipped) same ∙ sym (upright q))
      where
        upright : (i : ℕ) → around (reach - s) i b ≡ oriented flipped (around (reach - s) i (oriented flipped b))
        upright i =
            let k : ℕ = reach - s in
            let held : 0 < length b = omega (arith, S.n_is, form.size) in
            sym
            (ap (oriented flipped) (sym (cut-oriented k i flipped b held) ∙ cut_is k i flipped b)
            ∙ oriented_twice flipped (around k i b) (all_bits-around k i b form.bits))

        go : (p ≡ q + s) ⊎ (q ≡ p + s) → around (reach - s) p b ≡ around (reach - s) q b → ⊥
        go (inl e) same = ring_period q (sym (rw e at same))
        go (inr e) same = ring_period p (rw e at same)
