-- The last 110 bits of a telegram, b109 to b0, and how they change with esb (document 01, "The telegram, left to right" and "Check bits";
-- document 02, No. 7). For the contracts of private functions. Assumes nothing.
use Rattle.std.specs.Prelude.{ℕ, ◌+◌, ◌-◌, ◌^◌, ◌≡◌, List, ◌++◌, replicate}
use Rattle.bits.specs.Bits.{bits_of}
use Rattle.formats.specs.Numbers.{Numbers, fg_of}
use Rattle.cyclic.specs.Remainder.{remainder}
use Rattle.cyclic.specs.Check.{check_bits}
use Rattle.telegrams.specs.Telegram.{settings}
use Rattle.quick_encoder.specs.declared.tail.Tail.{Tail}

-- as two numbers of 55 bits
abbrev pub tail_bits : Tail → List ℕ
tail_bits t = bits_of 55 t.high ++ bits_of 55 t.low

-- those of the telegram with the shaped data d, B and esb: settings and check bits
unfoldable pub tail_of : Numbers → List ℕ → ℕ → ℕ → List ℕ
tail_of F d B esb = settings B esb ++ check_bits F (d ++ settings B esb)

-- what is added to them where the bits of c are added to esb: c at the place of esb, and the remainder of c times x^85 by f*g
unfoldable pub change_of : Numbers → ℕ → List ℕ
change_of F c = (replicate 15 0 ++ bits_of 10 c) ++ remainder (fg_of F) (bits_of 10 c ++ replicate 85 0)

-- t is what is added where the lowest k + 1 bits of esb change
pub record Change (F : Numbers) (k : ℕ) (t : Tail) : Type 0 where
  pub adds : tail_bits t ≡ change_of F (2 ^ (k + 1) - 1)
