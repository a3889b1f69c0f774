-- A user block of each format, and a pair of scrambling and extra shaping bits; proofs/Blocks.antt proves that its telegram is proper.
-- Assumes nothing.
use Rattle.std.specs.Prelude.{ℕ, List, replicate}
use Rattle.formats.specs.declared.format.Format.{Format}
use Rattle.formats.specs.declared.format.Format.TheVariants.{Long, Short}
use Rattle.formats.specs.Numbers.{numbers_of}
use Rattle.telegrams.specs.Telegram.{telegram_of}

-- the block of ones
abbrev pub ones_of : Format → List ℕ
ones_of format = replicate (numbers_of format).m 1

-- the scrambling bits' number B
abbrev pub scrambling : Format → ℕ
scrambling Long = 18
scrambling Short = 20

-- the extra shaping bits' number
abbrev pub shaping : Format → ℕ
shaping Long = 709
shaping Short = 897

-- the telegram of the block and the pair
abbrev pub telegram : Format → List ℕ
telegram format = telegram_of (numbers_of format) (ones_of format) (scrambling format) (shaping format)
