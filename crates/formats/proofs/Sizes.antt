-- The relations between the numbers of a format (document 01, "The telegram, left to right"). Assumes nothing.
use Prim.Native.Nat.{ℕ, ◌+◌, ◌*◌, ◌≤◌}
use mathlib.Core.Path.{◌≡◌, refl}
use native.Mathlib.Omega.{arith}
use lib.Dec.{lit≤}
use Rattle.formats.specs.declared.format.Format.{Format}
use Rattle.formats.specs.declared.format.Format.TheVariants.{Long, Short}
use Rattle.formats.specs.Numbers.{Numbers, long, short, numbers_of, blocks, window_bits}

pub record Sizes (F : Numbers) : Type 0 where
  -- eleven bits for each block, and 110 more
  pub n_is : F.n ≡ 11 * blocks F + 110
  -- the blocks are whole
  pub m_is : F.m ≡ 10 * blocks F
  -- a word for each block, and ten more
  pub words_are : F.words ≡ blocks F + 10
  pub some : 1 ≤ blocks F
  -- a window repeats no more bits than the telegram has
  pub r_within : F.r ≤ F.n

pub long_sizes : Sizes long
long_sizes = record { n_is = refl; m_is = refl; words_are = refl; some = lit≤ tt; r_within = lit≤ tt }

pub short_sizes : Sizes short
short_sizes = record { n_is = refl; m_is = refl; words_are = refl; some = lit≤ tt; r_within = lit≤ tt }

pub sizes_of : (format : Format) → Sizes (numbers_of format)
sizes_of Long = long_sizes
sizes_of Short = short_sizes

-- the words fill the telegram
pub words_fill : (format : Format) → 11 * (numbers_of format).words ≡ (numbers_of format).n
words_fill format = omega (arith, (sizes_of format).words_are, (sizes_of format).n_is)

-- ---- a size of a format lies between the short one's and the long one's

abbrev pub Between : (Numbers → ℕ) → Format → Type 0
Between size_of format = (size_of short ≤ size_of (numbers_of format)) × (size_of (numbers_of format) ≤ size_of long)

between : (size_of : Numbers → ℕ) → size_of short ≤ size_of long → (format : Format) → Between size_of format
between size_of h Long = (h, omega arith)
between size_of h Short = (omega arith, h)

pub block_between : (format : Format) → Between (λ (F : Numbers). F.m) format
block_between = between (λ (F : Numbers). F.m) (lit≤ tt)

pub telegram_between : (format : Format) → Between (λ (F : Numbers). F.n) format
telegram_between = between (λ (F : Numbers). F.n) (lit≤ tt)

pub window_between : (format : Format) → Between window_bits format
window_between = between window_bits (lit≤ tt)
