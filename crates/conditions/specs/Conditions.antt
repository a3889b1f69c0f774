-- The conditions of a proper telegram (document 01, "Four conditions of a proper telegram"). b is b(n-1) to b0, so that b(i) stands
-- at place n-1-i of the list, and the words from b(n-1-p) rightward start at place p.
-- Assumes nothing.
use Rattle.std.specs.Prelude.{ℕ, zero, suc, ◌+◌, ◌-◌, ◌*◌, ◌%◌, ◌^◌, Bool, true, cond, ◌&&◌, ◌||◌, List, [], ◌∷◌, eqb, leb, length, get_or}
use Rattle.bits.specs.Bits.{around}
use Rattle.bits.specs.Differences.{differences}
use Rattle.formats.specs.declared.format.Format.{Format}
use Rattle.formats.specs.declared.format.Format.TheVariants.{Long, Short}
use Rattle.formats.specs.Numbers.{long, numbers_of}
use Rattle.telegrams.specs.Fields.{well_formed}
use Rattle.conditions.specs.Runs.{valid_words, longest_round}

-- the test holds of each of k numbers from i on
unfoldable pub each : (ℕ → Bool) → ℕ → ℕ → Bool
each test i zero = true
each test i (suc k) = test i && each test (suc i) k

-- the test holds of each number from a to b
abbrev pub from_to : ℕ → ℕ → (ℕ → Bool) → Bool
from_to a b test = each test a (suc b - a)

-- condition 2. At most 2 valid words in a run for p = 1 and 10; otherwise 10 long, 6 short
abbrev pub off_step_limit : Format → ℕ
off_step_limit Long = 10
off_step_limit Short = 6

unfoldable pub limit_at : Format → ℕ → ℕ
limit_at format p = cond (eqb p 1 || eqb p 10) 2 (off_step_limit format)

-- off step by p, round the ring of n/11 words (document 02, No. 5)
unfoldable pub off_step_at : Format → List ℕ → ℕ → Bool
off_step_at format b p = leb (longest_round (valid_words (numbers_of format).words p b)) (limit_at format p)

unfoldable pub off_step_within : Format → List ℕ → Bool
off_step_within format b = from_to 1 10 (off_step_at format b)

-- condition 3. The 22 bits from place p differ in at least d places from those that stand k places on
unfoldable pub apart : ℕ → List ℕ → ℕ → ℕ → Bool
apart d b p k = leb d (differences (around 22 p b) (around 22 (p + k) b))

-- b(i-1) stands at place p = n-i, and b(i-341-k-1) 341+k places on: at least 3 for k = 0, at least 2 for k = 1, -1, 2, -2, 3, -3
unfoldable pub shifted_apart : List ℕ → ℕ → Bool
shifted_apart b p = apart 3 b p 341 && from_to 1 3 (λ (k : ℕ). apart 2 b p (341 + k) && apart 2 b p (341 - k))

-- for each i divisible by 11: n is divisible by 11, and so is p = n-i
unfoldable pub not_repeating : Format → List ℕ → Bool
not_repeating Long b = from_to 0 (long.words - 1) (λ (j : ℕ). shifted_apart b (11 * j))
not_repeating Short b = true

-- condition 4. v(j) = b(j*2^k) for j from n-1 down to 0
unfoldable pub thinned_below : ℕ → ℕ → List ℕ → List ℕ
thinned_below zero step b = []
thinned_below (suc j) step b = get_or b (length b - 1 - j * step % length b) 0 ∷ thinned_below j step b

unfoldable pub thinned : ℕ → List ℕ → List ℕ
thinned k b = thinned_below (length b) (2 ^ k) b

-- at alignment a the words of v form a ring with no run over 30
unfoldable pub thinned_at : Format → List ℕ → ℕ → Bool
thinned_at format v a = leb (longest_round (valid_words (numbers_of format).words a v)) 30

unfoldable pub thinned_by : Format → List ℕ → ℕ → Bool
thinned_by format b k = from_to 0 10 (thinned_at format (thinned k b))

unfoldable pub thinned_within : Format → List ℕ → Bool
thinned_within format b = from_to 1 4 (thinned_by format b)

-- well-formed, and conditions 2, 3 and 4
unfoldable pub proper : Format → List ℕ → Bool
proper format b =
    well_formed (numbers_of format) b && (off_step_within format b && (not_repeating format b && thinned_within format b))
