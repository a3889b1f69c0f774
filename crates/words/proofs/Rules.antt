-- The rules of the table (document 01, "Words"; W1 and W2 of the bench sheet): 1,024 rising entries of eleven bits, and
-- entry 1023-i is the flip of entry i. Each is one test computed over the whole table. Assumes nothing.
use mathlib.Core.Path.{◌≡◌, refl, ap, ap₂, ◌∙◌}
use mathlib.Core.Bool.{Bool}
use mathlib.Core.List.{List, ◌∷◌, reverse}
use Prim.Native.Nat.{ℕ, suc, ◌-◌, ◌<◌}
use native.Mathlib.Omega.{arith}
use lib.Dec.{T, ltb, ltb→lt}
use lib.ListN.{length, get_or}
use Rattle.bits.specs.Bits.{bits_of, flip}
use Rattle.words.specs.Table.{table}
use Rattle.words.specs.Words.{word_of}
use Rattle.words.proofs.Lists.{every, every-at, rises, rises_order, sums_to, sums_at, reverse-at}

pub table-length : length table ≡ 1024
unfolding table
table-length = refl

pub within : (i : ℕ) → i < 1024 → i < length table
within i h = omega (arith, table-length)

pub table-rises : T (rises 0 table)
unfolding table rises
table-rises = tt

abbrev eleven_bits : ℕ → Bool
eleven_bits x = ltb x 2048

table_bits : T (every eleven_bits table)
unfolding table every
table_bits = tt

pub word_bits : (i : ℕ) → i < 1024 → word_of i < 2048
unfolding word_of
word_bits i h = ltb→lt (get_or table i 0) 2048 (every-at eleven_bits table table_bits i (within i h))

pub rising : (i j : ℕ) → i < j → j < 1024 → word_of i < word_of j
unfolding word_of
rising i j p h = rises_order 0 table table-rises i j p (within j h)

table_flips : T (sums_to 2047 table (reverse table))
unfolding table sums_to
table_flips = tt

opposite : (i : ℕ) → i < 1024 → get_or (reverse table) i 0 ≡ get_or table (1023 - i) 0
opposite i h =
    let e : length table - suc i ≡ 1023 - i = omega (arith, table-length) in
    reverse-at table i (within i h) ∙ ap (λ (m : ℕ). get_or table m 0) e

-- entry 1023-i is the flip of entry i; the flip of an eleven-bit word w is 2047 - w, as `flip_bits` says
pub flips : (i : ℕ) → i < 1024 → word_of (1023 - i) ≡ 2047 - word_of i
unfolding word_of
flips i h = omega (arith, opposite i h, sums_at 2047 table (reverse table) table_flips i (within i h))

next : {a b : ℕ} {u v : List ℕ} → a ≡ b → u ≡ v → a ∷ u ≡ b ∷ v
next p q = ap₂ (λ (a : ℕ) (u : List ℕ). a ∷ u) p q

pub flip_bits : (w : ℕ) → w < 2048 → flip (bits_of 11 w) ≡ bits_of 11 (2047 - w)
unfolding flip bits_of
flip_bits w h =
    next (omega arith)
    (next (omega arith)
    (next (omega arith)
    (next (omega arith)
    (next (omega arith)
    (next (omega arith)
    (next (omega arith)
    (next (omega arith)
    (next (omega arith)
    (next (omega arith)
    (next (omega arith) refl))))))))))

-- the bench sheet's W1 and W2
pub w1 : word_of 0 ≡ 0o00101
unfolding word_of table
w1 = refl

pub w2 : word_of 1023 ≡ 0o03676
unfolding word_of table
w2 = refl
