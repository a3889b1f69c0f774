-- The shaped data d completed by B and esb: the ten words of what comes after it are tested first, then the conditions of the whole.
-- Assumes nothing.
use mathlib.Core.Path.{◌≡◌, sym, ap, ◌∙◌}
use mathlib.Core.Bool.{Bool, ◌&&◌}
use mathlib.Core.List.{List, ◌++◌}
use Prim.Native.Nat.{ℕ, ◌+◌, ◌-◌, ◌*◌, ◌<◌}
use lib.ListN.{length, take}
use lib.Seq.{drop_at}
use Rattle.bits.proofs.Left.{Left}
use Rattle.formats.specs.declared.format.Format.{Format}
use Rattle.formats.specs.Numbers.{numbers_of}
use Rattle.formats.proofs.Sizes.{sizes_of}
use Rattle.cyclic.proofs.Formats.{facts_of}
use Rattle.telegrams.specs.Telegram.{shaped_data, unchecked, telegram_of}
use Rattle.telegrams.specs.Fields.{all_words}
use Rattle.telegrams.proofs.Made.{made_split}
use Rattle.encoder.specs.Encoding.{passes}
use Rattle.encoder.specs.Searched.{made_proper}
use Rattle.encoder.proofs.Pairs.{pair_passes}
use Rattle.quick_encoder.specs.declared.tail.Tail.{Tail}
use Rattle.quick_encoder.specs.Tail.{tail_bits, tail_of}
use Rattle.quick_encoder.specs.PairFrom.{meets_conditions, completes, shaping_from}

-- the bits w after the shaped data d: first their words are tested
module _ (format : Format) (d w : List ℕ) (size : length d ≡ (numbers_of format).n - 110) where
  words_then_conditions : made_proper format (d ++ w) ≡ all_words 10 w && meets_conditions format (d ++ w)
  unfolding made_proper
  words_then_conditions = ap (λ (l : List ℕ). all_words 10 l && meets_conditions format (d ++ w)) (drop_at d w ((numbers_of format).n - 110) size)

  -- a word that is not in the table decides; where all are, the conditions do
  pub words_decide : (all : Bool) → all_words 10 w ≡ all → made_proper format (d ++ w) ≡ all && meets_conditions format (d ++ w)
  words_decide all e = words_then_conditions ∙ ap (λ (t : Bool). t && meets_conditions format (d ++ w)) e

-- the shaped data of a block and B, completed by esb, is the telegram of the block, B and esb
completed_made : (format : Format) (u : List ℕ) (B esb : ℕ)
    → shaped_data (numbers_of format) u B ++ tail_of (numbers_of format) (shaped_data (numbers_of format) u B) B esb ≡ telegram_of (numbers_of format) u B esb
unfolding tail_of unchecked
completed_made format u B esb = sym (made_split (numbers_of format) (facts_of format) (sizes_of format) u B esb)

-- so that the pair passes where it completes the shaped data
pub pair_completes : (format : Format) (u : List ℕ) (B esb : ℕ) → esb < 1024
    → passes format u (1024 * B + esb) ≡ completes format (shaped_data (numbers_of format) u B) B esb
unfolding completes
pair_completes format u B esb h =
    sym (pair_passes format u B esb h) ∙ ap (made_proper format) (sym (completed_made format u B esb))

-- while esb is counted on: t has the shaped data d in front, tail is that of d, B and e, and e is the next to be tried of those from esb on
pub record Trying (format : Format) (d : List ℕ) (B esb : ℕ) (t : List ℕ) (tail : Tail) (e : ℕ) : Type 0 where
  pub front : take ((numbers_of format).n - 110) t ≡ d
  pub tail_is : tail_bits tail ≡ tail_of (numbers_of format) d B e
  pub rest : Left (completes format d B) (shaping_from format d B esb) 1024 e
