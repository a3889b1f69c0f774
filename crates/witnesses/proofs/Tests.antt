-- When a made telegram is proper, by tests that compute in few steps: its last ten words are in the table, and conditions 2, 3 and 4 hold
-- of its bits written twice, where no place goes round the end and a word is looked up by one bit. Assumes nothing.
use mathlib.Core.Path.{◌≡◌, refl, ap, ap₂, ◌∙◌}
use mathlib.Core.Bool.{Bool, true, ◌&&◌}
use mathlib.Core.List.{List, [], ◌∷◌, ◌++◌}
use Prim.Native.Nat.{ℕ, zero, suc, ◌+◌, ◌-◌, ◌*◌, ◌%◌, ◌^◌, ◌≤◌, ◌<◌}
use native.Mathlib.Omega.{arith}
use lib.Dec.{T, leb}
use lib.ListN.{length, get_or, take, drop}
use Rattle.bits.specs.Bits.{all_bits}
use Rattle.bits.specs.Differences.{differences}
use Rattle.formats.specs.declared.format.Format.{Format}
use Rattle.formats.specs.declared.format.Format.TheVariants.{Long, Short}
use Rattle.formats.specs.Numbers.{long, numbers_of}
use Rattle.formats.proofs.Sizes.{sizes_of, telegram_between, words_fill}
use Rattle.cyclic.proofs.Formats.{facts_of}
use Rattle.telegrams.specs.Fields.{all_words}
use Rattle.telegrams.specs.Telegram.{telegram_of}
use Rattle.telegrams.proofs.Made.{length_made, bits_made}
use Rattle.telegrams.proofs.WellFormed.{made_well_formed}
use Rattle.conditions.specs.Runs.{longest_round}
use Rattle.conditions.specs.Conditions.{from_to, limit_at, off_step_at, off_step_within, apart, shifted_apart, not_repeating, thinned_below, thinned, thinned_at, thinned_by, thinned_within, proper}
use Rattle.conditions.proofs.Each.{each_same}
use Rattle.conditions.proofs.ThinnedRing.{length-thinned, all_bits-thinned}
use Rattle.witnesses.proofs.Twice.{valid_in, twice_from, around_from, valid_from}

-- ---- the tests; s is the telegram written twice

-- condition 2
abbrev off_step_twice : Format → List ℕ → ℕ → Bool
off_step_twice format s p =
    leb (longest_round (valid_in (numbers_of format).words (twice_from (numbers_of format).n p s))) (limit_at format p)

-- condition 3
abbrev apart_twice : ℕ → ℕ → List ℕ → ℕ → ℕ → Bool
apart_twice n d s p k = leb d (differences (take 22 (twice_from n p s)) (take 22 (twice_from n (p + k) s)))

abbrev shifted_twice : ℕ → List ℕ → ℕ → Bool
shifted_twice n s p =
    apart_twice n 3 s p 341 && from_to 1 3 (λ (k : ℕ). apart_twice n 2 s p (341 + k) && apart_twice n 2 s p (341 - k))

abbrev not_repeating_twice : Format → List ℕ → Bool
not_repeating_twice Long s = from_to 0 (long.words - 1) (λ (j : ℕ). shifted_twice long.n s (11 * j))
not_repeating_twice Short s = true

-- condition 4: b, which has n bits, thinned
unfoldable pub thinned_in : ℕ → ℕ → ℕ → List ℕ → List ℕ
thinned_in n step zero b = []
thinned_in n step (suc j) b = get_or b (n - 1 - j * step % n) 0 ∷ thinned_in n step j b

abbrev thinned_at_twice : Format → List ℕ → ℕ → Bool
thinned_at_twice format s a = leb (longest_round (valid_in (numbers_of format).words (twice_from (numbers_of format).n a s))) 30

abbrev thinned_by_twice : Format → List ℕ → Bool
thinned_by_twice format v = from_to 0 10 (thinned_at_twice format (v ++ v))

abbrev thinned_twice : Format → List ℕ → ℕ → Bool
thinned_twice format b k = thinned_by_twice format (thinned_in (numbers_of format).n (2 ^ k) (numbers_of format).n b)

abbrev pub proper_twice : Format → List ℕ → Bool
proper_twice format b =
    all_words 10 (drop ((numbers_of format).n - 110) b)
    && (from_to 1 10 (off_step_twice format (b ++ b)) && (not_repeating_twice format (b ++ b) && from_to 1 4 (thinned_twice format b)))

-- ---- they are the conditions

thinned_in_is : (step j : ℕ) (b : List ℕ) → thinned_below j step b ≡ thinned_in (length b) step j b
unfolding thinned_below thinned_in
thinned_in_is step zero b = refl
thinned_in_is step (suc j) b = ap (λ (l : List ℕ). get_or b (length b - 1 - j * step % length b) 0 ∷ l) (thinned_in_is step j b)

module _ (format : Format) (b : List ℕ) (bits : T (all_bits b)) (size : length b ≡ (numbers_of format).n) where
  abbrev n : ℕ
  n = (numbers_of format).n

  some : 0 < n
  some = omega (arith, telegram_between format)

  off_step_is : off_step_within format b ≡ from_to 1 10 (off_step_twice format (b ++ b))
  unfolding off_step_within off_step_at
  off_step_is =
      each_same _ _ 1 10 λ p.
      ap (λ (l : List Bool). leb (longest_round l) (limit_at format p))
      (valid_from b n size some bits (numbers_of format).words p (omega (arith, words_fill format)))

  apart_is : (d p k : ℕ) → apart d b p k ≡ apart_twice n d (b ++ b) p k
  unfolding apart
  apart_is d p k =
      let fits : 22 ≤ n = omega (arith, telegram_between format) in
      ap₂ (λ (x y : List ℕ). leb d (differences x y)) (around_from b n size some 22 p fits) (around_from b n size some 22 (p + k) fits)

  shifted_is : (p : ℕ) → shifted_apart b p ≡ shifted_twice n (b ++ b) p
  unfolding shifted_apart
  shifted_is p =
      ap₂ ◌&&◌ (apart_is 3 p 341) (each_same _ _ 1 3 λ k. ap₂ ◌&&◌ (apart_is 2 p (341 + k)) (apart_is 2 p (341 - k)))

  thinned_at_lem : (v : List ℕ) → T (all_bits v) → length v ≡ n → (a : ℕ) → thinned_at format v a ≡ thinned_at_twice format (v ++ v) a
  unfolding thinned_at
  thinned_at_lem v bits size a =
      ap (λ (l : List Bool). leb (longest_round l) 30)
      (valid_from v n size some bits (numbers_of format).words a (omega (arith, words_fill format)))

  thinned_by_lem : (k : ℕ) → thinned_by format b k ≡ thinned_twice format b k
  unfolding thinned_by thinned
  thinned_by_lem k =
      each_same _ _ 0 11 (thinned_at_lem (thinned k b) (all_bits-thinned k b bits) (length-thinned k b ∙ size))
      ∙ ap (thinned_by_twice format) (thinned_in_is (2 ^ k) (length b) b ∙ ap (λ (m : ℕ). thinned_in m (2 ^ k) m b) size)

  thinned_is : thinned_within format b ≡ from_to 1 4 (thinned_twice format b)
  unfolding thinned_within
  thinned_is = each_same _ _ 1 4 thinned_by_lem

not_repeating_is : (format : Format) (b : List ℕ) → T (all_bits b) → length b ≡ (numbers_of format).n
    → not_repeating format b ≡ not_repeating_twice format (b ++ b)
unfolding not_repeating
not_repeating_is Long b bits size = each_same _ _ 0 long.words λ j. shifted_is Long b bits size (11 * j)
not_repeating_is Short b bits size = refl

pub proper_is : (format : Format) (u : List ℕ) (B esb : ℕ)
    → proper format (telegram_of (numbers_of format) u B esb) ≡ proper_twice format (telegram_of (numbers_of format) u B esb)
unfolding proper
proper_is format u B esb =
    let F = numbers_of format in
    let t = telegram_of F u B esb in
    let bits = bits_made F (facts_of format) (sizes_of format) u B esb in
    let size = length_made F (facts_of format) (sizes_of format) u B esb in
    ap₂ ◌&&◌ (made_well_formed F (facts_of format) (sizes_of format) u B esb)
    (ap₂ ◌&&◌ (off_step_is format t bits size) (ap₂ ◌&&◌ (not_repeating_is format t bits size) (thinned_is format t bits size)))
