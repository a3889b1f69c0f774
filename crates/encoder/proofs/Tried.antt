-- The buffer while the pairs are tried: the block with its sum, the shaped data in front for each B, and each telegram completed from it.
-- Assumes nothing.
use mathlib.Core.Path.{◌≡◌, sym, ap, ◌∙◌}
use mathlib.Core.List.{List, ◌++◌}
use Prim.Native.Nat.{ℕ, ◌-◌, ◌*◌, ◌/◌, ◌≤◌}
use native.Mathlib.Omega.{arith}
use lib.Dec.{T}
use lib.ListN.{length, take, drop}
use lib.Seq.{take_at}
use Rattle.bits.specs.Bits.{all_bits}
use Rattle.formats.specs.declared.format.Format.{Format}
use Rattle.formats.specs.Numbers.{numbers_of, blocks}
use Rattle.formats.proofs.Sizes.{sizes_of, block_between, telegram_between}
use Rattle.scrambling.specs.Scrambling.{scrambled}
use Rattle.scrambling.specs.Sum.{with_sum}
use Rattle.scrambling.proofs.Summed.{with_sum-length, with_sum_bits}
use Rattle.cyclic.specs.Check.{check_bits}
use Rattle.cyclic.proofs.Formats.{facts_of}
use Rattle.telegrams.specs.Telegram.{shaped, shaped_data, settings, telegram_of}
use Rattle.telegrams.proofs.Made.{bits_shaped_data, length_made}
use Rattle.telegrams.proofs.Buffers.Completed.{data_front, made_telegram, telegram_data}

-- ---- the block

module _ (format : Format) (u : List ℕ) (size : length u ≡ (numbers_of format).m) where
  -- it has a first block of ten bits, and fits the array
  pub block_ten : 10 ≤ length u
  block_ten = omega (arith, sizes_of format)

  pub block_within : length u ≤ 830
  block_within = omega (arith, block_between format)

  -- s has the block with its sum over the front of old
  module _ (old s : List ℕ) (e : s ≡ with_sum (length u / 10) u ++ drop (length u) old) where
    pub summed : take (length u) s ≡ with_sum (blocks (numbers_of format)) u
    summed =
        ap (take (length u)) e
        ∙ take_at (with_sum (length u / 10) u) (drop (length u) old) (length u) (with_sum-length (length u / 10) u block_ten)
        ∙ ap (λ (m : ℕ). with_sum (m / 10) u) size

    pub summed_bits : T (all_bits u) → T (all_bits (take (length u) s))
    summed_bits h = rw summed (with_sum_bits (blocks (numbers_of format)) u h)

    pub summed_size : length (take (length u) s) ≡ (numbers_of format).m
    summed_size = ap length summed ∙ with_sum-length (blocks (numbers_of format)) u block_ten ∙ size

    -- t has its shaped data over the front of before
    pub shaped-front : (B : ℕ) (before t : List ℕ)
        → t ≡ shaped (blocks (numbers_of format)) (scrambled B (take (length u) s)) ++ drop (11 * blocks (numbers_of format)) before
        → take ((numbers_of format).n - 110) t ≡ shaped_data (numbers_of format) u B
    shaped-front B before t f = data_front (numbers_of format) (sizes_of format) u B before t (rw summed at f)

-- ---- the buffer

-- t has the shaped data of u and B in front
pub record Trying (format : Format) (u : List ℕ) (B : ℕ) (t : List ℕ) : Type 0 where
  pub size : length t ≡ 1023
  pub front : take ((numbers_of format).n - 110) t ≡ shaped_data (numbers_of format) u B

module _ {format : Format} {u : List ℕ} {B : ℕ} {t : List ℕ} (h : Trying format u B t) where
  pub trying_fits : (numbers_of format).n ≤ length t
  trying_fits = omega (arith, telegram_between format)

  pub trying_bits : T (all_bits (take ((numbers_of format).n - 110) t))
  trying_bits = rw h.front (bits_shaped_data (numbers_of format) u B)

  -- a telegram is completed in it
  module _ (esb : ℕ) (made : List ℕ) (same : length made ≡ length t)
      (e : made ≡ (take ((numbers_of format).n - 110) t ++ settings B esb)
      ++ (check_bits (numbers_of format) (take ((numbers_of format).n - 110) t ++ settings B esb) ++ drop (numbers_of format).n t)) where
    over : made ≡ telegram_of (numbers_of format) u B esb ++ drop (numbers_of format).n t
    over = e ∙ made_telegram (numbers_of format) u B esb t (drop (numbers_of format).n t) h.front

    -- it stands in front
    pub tried-telegram : (n : ℕ) → n ≡ (numbers_of format).n → take n made ≡ telegram_of (numbers_of format) u B esb
    tried-telegram n n_is =
        ap (take n) over
        ∙ take_at (telegram_of (numbers_of format) u B esb) (drop (numbers_of format).n t) n
        (length_made (numbers_of format) (facts_of format) (sizes_of format) u B esb ∙ sym n_is)

    -- and the next can be completed
    pub tried-next : Trying format u B made
    tried-next =
        record {
          size = same ∙ h.size;
          front = ap (take ((numbers_of format).n - 110)) over
              ∙ telegram_data (numbers_of format) (facts_of format) (sizes_of format) u B esb (drop (numbers_of format).n t);
        }
