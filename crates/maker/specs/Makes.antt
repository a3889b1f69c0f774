-- What making a telegram means (document 02, No. 11 and No. 13; the request, demand 1).
-- Assumes nothing.
use Rattle.std.specs.Prelude.{ℕ, ◌≤◌, ◌<◌, ◌≡◌, List, ◌↔◌, T, length, Ok, Err}
use Rattle.bits.specs.Bits.{all_bits}
use Rattle.formats.specs.declared.format.Format.{Format}
use Rattle.formats.specs.Numbers.{numbers_of, blocks}
use Rattle.words.specs.declared.BadWord.{BadWord}
use Rattle.refusals.specs.declared.Refusal.{Refusal}
use Rattle.refusals.specs.declared.Refusal.TheVariants.{NotWord}
use Rattle.refusals.specs.Table.{RefusesInOrder}
use Rattle.refusals.specs.Outcome.{FrontWritten}
use Rattle.telegrams.specs.Telegram.{telegram_of}
use Rattle.telegrams.specs.Fields.{scrambling_of, shaping_of, user_bits_of, well_formed}
use Rattle.telegrams.specs.Worded.{IsFirstBad}
use Rattle.maker.specs.Making.{format_of, make_table, wrote, make_of}

-- a block of the format, all bits; a pair; and room for the telegram
pub record InOrder (format : Format) (u : List ℕ) (B esb : ℕ) (out : List ℕ) : Type 0 where
  pub size : length u ≡ (numbers_of format).m
  pub bits : T (all_bits u)
  pub scrambling : B < 4096
  pub shaping : esb < 1024
  pub room : (numbers_of format).n ≤ length out

-- b is a well-formed telegram of the format, has the scrambling bits B and the extra shaping bits esb, and carries the user bits u
pub record Carries (format : Format) (b u : List ℕ) (B esb : ℕ) : Type 0 where
  pub is_well_formed : T (well_formed (numbers_of format) b)
  pub scrambling : scrambling_of (numbers_of format) b ≡ B
  pub shaping : shaping_of (numbers_of format) b ≡ esb
  pub user_bits : user_bits_of (numbers_of format) b ≡ u

-- demand 1: what make answers by its table; the last two quotations are from document 01, "When the bench says no"
pub record MakeAnswers (u : List ℕ) (B esb : ℕ) (out : List ℕ) : Type 0 where
  -- document 02: "Refusals are 1, 2, 27 for B or esb too large, 3, then 9": the first in this order that applies, and none otherwise
  pub refuses : RefusesInOrder Err (make_table (format_of u) (length out) u B esb) (make_of u B esb out).answer
  -- document 02, No. 13: "telegram-making calls carry the two facts too": 9 with this kind and index exactly where the input is in order and
  -- this is the first word of the telegram that is not in the table
  pub names : (bad : BadWord) → ((make_of u B esb out).answer ≡ Err (NotWord bad))
      ↔ (let F = numbers_of (format_of u) in InOrder (format_of u) u B esb out × IsFirstBad F.words (telegram_of F u B esb) bad)
  -- it is one of the last ten words: those of the shaped data come from the table
  pub last_ten : (bad : BadWord) → (make_of u B esb out).answer ≡ Err (NotWord bad) → blocks (numbers_of (format_of u)) ≤ bad.index
  -- "outputs keep every byte"
  pub keeps : (r : Refusal) → (make_of u B esb out).answer ≡ Err r → (make_of u B esb out).output ≡ out
  -- "Success writes exactly the first n or m bytes; longer outputs keep their tails."
  pub writes : (format : Format) → (make_of u B esb out).answer ≡ Ok format
      → FrontWritten (numbers_of format).n out (make_of u B esb out).output

-- document 02: "a call that makes the well-formed telegram from block, B and esb without searching"
pub record MakesExactly (u : List ℕ) (B esb : ℕ) (out : List ℕ) : Type 0 where
  -- it succeeds exactly when the input is in order and the telegram of block, B and esb is well-formed
  pub succeeds : (format : Format)
      → ((make_of u B esb out).answer ≡ Ok format) ↔ (InOrder format u B esb out × T (well_formed (numbers_of format) (telegram_of (numbers_of format) u B esb)))
  -- and writes b exactly when b is the well-formed telegram that has B and esb and carries the block
  pub gives : (format : Format) (b : List ℕ) → (make_of u B esb out ≡ wrote format b out) ↔ (InOrder format u B esb out × Carries format b u B esb)
