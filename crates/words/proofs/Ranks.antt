-- The number of a word by its rank: how many words of the table are below it. One computed test over the 2,048 words compares it
-- with the inverse table. Assumes nothing.
use mathlib.Core.Path.{◌≡◌, refl, ap, sym, ◌∙◌, subst}
use mathlib.Core.Bool.{Bool, true, false, ◌&&◌}
use Prim.Native.Nat.{ℕ, zero, suc, ◌+◌, ◌*◌, ◌/◌, ◌%◌, ◌^◌, ◌≤◌, ◌<◌}
use native.Mathlib.Nat.{mod-lt}
use native.Mathlib.Numerals.{add-one}
use native.Mathlib.Omega.{arith}
use lib.Count.{ones, ones_in, ones_step, ones-le}
use lib.Dec.{T, eqb, leb, ltb, eqb→eq, leb→le, ltb→lt}
use lib.ListN.{get_or, get_or-eq_default}
use lib.Pow.{suc_ones, shl_exact, shr_lt, shr_le}
use borrow.Author.Tests.{ltb-true, ltb-false}
use Rattle.words.specs.Table.{table}
use Rattle.words.specs.PartsOf64.{present, before}
use Rattle.words.specs.Words.{kind_of, lookup_of, in_table}
use Rattle.bits.proofs.And.{and_left, and_right}
use Rattle.words.proofs.Lists.{each_from, each_at}
use Rattle.words.proofs.Numbers.{lookup_wide}
use Rattle.words.proofs.InverseTable.{inverse, inverse_from, inverse-length, inverse_number, inverse-none}
use Rattle.std.specs.Prelude.{Ok, Err, is_ok}

-- as the code has them, where x has the bits of the word's part, and y words of the table are below the part: the word's bit, the
-- divisor that leaves the bits below it, those bits, and the rank
abbrev pub bit_at : ℕ → ℕ → ℕ
bit_at x w = x / 2 ^ (w % 64) % 2

abbrev pub divisor : ℕ → ℕ
divisor w = 1 * 2 ^ (w % 64) % 2 ^ 64

abbrev pub lower : ℕ → ℕ → ℕ
lower x w = x % divisor w

abbrev pub rank : ℕ → ℕ → ℕ → ℕ
rank x y w = y + ones (lower x w)

pub divides : (w : ℕ) → 0 < divisor w
divides w = omega (arith, suc_ones (w % 64), shl_exact {a = 1} 1 (w % 64) 64 (omega arith) (omega arith))

below : (x w : ℕ) → lower x w < 2 ^ 64
below x w = omega (arith, mod-lt x (divides w))

pub few : (x w : ℕ) → ones (lower x w) ≤ 64
few x w = ones-le 64 (lower x w) (below x w)

-- the count of a number's bits, over its k lowest digits
ones_in_lem : (k n : ℕ) → n < 2 ^ k → ones n ≡ ones_in k n
unfolding ones ones_in
ones_in_lem zero n h =
    let e : n ≡ 0 = omega arith in
    ap ones e
ones_in_lem (suc k) n h =
    ones_step n ∙ ap (λ (m : ℕ). n % 2 + m) (ones_in_lem k (n / 2) (shr_lt k 1 (subst (λ (m : ℕ). n < 2 ^ m) (sym (add-one k)) h)))

-- the rank with a count that computes
abbrev rank_in : ℕ → ℕ → ℕ → ℕ
rank_in x y w = y + ones_in 64 (lower x w)

ranks : (x y w : ℕ) → rank x y w ≡ rank_in x y w
ranks x y w = ap (λ (m : ℕ). y + m) (ones_in_lem 64 (lower x w) (below x w))

-- the word's entry n of the inverse table is its rank, or says that it has none
abbrev tells : ℕ → ℕ → ℕ → Bool
tells zero n rank = eqb n 1024
tells (suc b) n rank = ltb n 1024 && eqb n rank

abbrev agrees_by : ℕ → ℕ → ℕ → ℕ → Bool
agrees_by x y w n = leb y 1024 && tells (bit_at x w) n (rank_in x y w)

agrees : ℕ → ℕ → Bool
agrees w n = agrees_by (get_or present (w / 64) 0) (get_or before (w / 64) 1024) w n

inverse-agrees : T (each_from agrees 0 inverse)
unfolding each_from agrees inverse inverse_from table ones_in
inverse-agrees = tt

tells_none : (b n k : ℕ) → b ≡ 0 → T (tells b n k) → n ≡ 1024
tells_none zero n k e t = eqb→eq n 1024 t
tells_none (suc b) n k e t = absurd (omega arith)

tells_number : (b n k : ℕ) → (b ≡ 0 → ⊥) → T (tells b n k) → (n < 1024) × (n ≡ k)
tells_number zero n k d t = absurd (d refl)
tells_number (suc b) n k d t =
    (ltb→lt n 1024 (and_left (ltb n 1024) (eqb n k) t), eqb→eq n k (and_right (ltb n 1024) (eqb n k) t))

-- what the bit and the rank tell of a number w
pub record Told (x y w : ℕ) : Type 0 where
  pub absent : bit_at x w ≡ 0 → Err (kind_of w) ≡ lookup_of w
  pub ranked : (bit_at x w ≡ 0 → ⊥) → (rank x y w < 1024) × (Ok (rank x y w) ≡ lookup_of w)
  pub most : y ≤ 1024

-- of a word
module _ (w x : ℕ) (h : w < 2048) (p : x ≡ get_or present (w / 64) 0) where
  word_told : (y : ℕ) → y ≡ get_or before (w / 64) 1024 → Told x y w
  unfolding agrees
  word_told y q =
      record { absent = absent; ranked = ranked; most = leb→le y 1024 (and_left (leb y 1024) _ agreed) }
    where
      agreed : T (agrees_by x y w (get_or inverse w 0))
      agreed = rw (p, q) (each_at agrees 0 inverse inverse-agrees w w (omega arith) (omega (arith, inverse-length)))

      told : T (tells (bit_at x w) (get_or inverse w 0) (rank_in x y w))
      told = and_right (leb y 1024) _ agreed

      absent : bit_at x w ≡ 0 → Err (kind_of w) ≡ lookup_of w
      absent e = inverse-none w h (omega (arith, tells_none (bit_at x w) (get_or inverse w 0) (rank_in x y w) e told))

      ranked : (bit_at x w ≡ 0 → ⊥) → (rank x y w < 1024) × (Ok (rank x y w) ≡ lookup_of w)
      ranked d =
          let found = tells_number (bit_at x w) (get_or inverse w 0) (rank_in x y w) d told in
          (omega (arith, ranks x y w), ap Ok (ranks x y w ∙ sym found.1) ∙ inverse_number w h found.0)

  -- the bit tells whether the table has it
  pub bit_tells : eqb (bit_at x w) 1 ≡ in_table w
  bit_tells = go (bit_at x w) refl
    where
      told : Told x (get_or before (w / 64) 1024) w
      told = word_told (get_or before (w / 64) 1024) refl

      go : (b : ℕ) → bit_at x w ≡ b → eqb b 1 ≡ in_table w
      go zero e = ap is_ok (told.absent e)
      go (suc zero) e = ap is_ok (told.ranked (λ z. omega arith)).1
      go (suc (suc b)) e = absurd (omega arith)

-- of a number of twelve bits or more: its part has no words, and the whole table is below it
module _ (w x : ℕ) (h : 2048 ≤ w) (p : x ≡ get_or present (w / 64) 0) where
  past : 31 ≤ w / 64
  past = omega arith

  wide_bit : bit_at x w ≡ 0
  wide_bit =
      let none : x ≡ 0 = p ∙ get_or-eq_default present 0 past in
      omega (arith, shr_le x (w % 64))

  wide_told : (y : ℕ) → y ≡ get_or before (w / 64) 1024 → Told x y w
  wide_told y q =
      record {
        absent = λ e. sym (lookup_wide w h);
        ranked = λ d. absurd (d wide_bit);
        most = omega (arith, q ∙ get_or-eq_default before 1024 past);
      }

  wide_tells : eqb (bit_at x w) 1 ≡ in_table w
  wide_tells = ap (λ (b : ℕ). eqb b 1) wide_bit ∙ ap is_ok (sym (lookup_wide w h))

-- of any number
module _ (w x : ℕ) (p : x ≡ get_or present (w / 64) 0) where
  pub any_bit_tells : eqb (bit_at x w) 1 ≡ in_table w
  any_bit_tells = go (ltb w 2048) refl
    where
      go : (b : Bool) → ltb w 2048 ≡ b → eqb (bit_at x w) 1 ≡ in_table w
      go true l = bit_tells w x (ltb-true w 2048 l) p
      go false l = wide_tells w x (ltb-false w 2048 l) p

  module _ (y : ℕ) (q : y ≡ get_or before (w / 64) 1024) where
    pub any_told : Told x y w
    any_told = go (ltb w 2048) refl
      where
        go : (b : Bool) → ltb w 2048 ≡ b → Told x y w
        go true l = word_told w x (ltb-true w 2048 l) p y q
        go false l = wide_told w x (ltb-false w 2048 l) p y q

    pub rank_small : rank x y w < 2048
    rank_small = omega (arith, any_told.most, few x w)
