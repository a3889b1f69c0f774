-- A telegram that encode wrote: that of the first proper pair, so it is proper, has that pair and carries the user bits.
-- Assumes nothing.
use mathlib.Core.Path.{◌≡◌, sym, ap, subst, ◌∙◌}
use mathlib.Core.List.{List}
use Prim.Native.Nat.{ℕ, ◌+◌, ◌*◌}
use lib.Dec.{T}
use Rattle.formats.specs.declared.format.Format.{Format}
use Rattle.formats.specs.Numbers.{numbers_of}
use Rattle.formats.proofs.Sizes.{sizes_of}
use Rattle.cyclic.proofs.Formats.{facts_of}
use Rattle.telegrams.specs.Telegram.{telegram_of}
use Rattle.telegrams.specs.Fields.{scrambling_of, shaping_of, user_bits_of, well_formed}
use Rattle.telegrams.proofs.Made.{scrambling_made, shaping_made, user_bits_made}
use Rattle.conditions.specs.Conditions.{proper}
use Rattle.conditions.proofs.Proper.{proper_parts}
use Rattle.encoder.specs.FirstPair.{FirstProper}
use Rattle.encoder.proofs.Accepted.{encode_accepted, accepted_front}
use Rattle.encoder.proofs.FirstOrNone.{first_of_some}
use Rattle.demands.specs.Demand3.{SomeProper, Wrote}

-- ---- the block's first pair

pub some_first : (format : Format) (u : List ℕ) → SomeProper format u → (B : ℕ) × (esb : ℕ) × FirstProper format u B esb
some_first format u s = first_of_some format u s.scrambling s.shaping s.scrambling_below s.shaping_below s.proper_pair

-- ---- what encode wrote

module _ (format : Format) (u : List ℕ) (B esb : ℕ) (b : List ℕ) (w : Wrote format u B esb b) where
  -- the telegram of the first proper pair
  wrote-first : FirstProper format u B esb
  wrote-first = (encode_accepted u w.lent format B esb (1024 * B + esb + 1) w.answered).first

  wrote_made : b ≡ telegram_of (numbers_of format) u B esb
  wrote_made = w.wrote ∙ accepted_front u w.lent format B esb (1024 * B + esb + 1) w.answered

  -- so it is proper
  pub wrote-proper : T (proper format b)
  wrote-proper = subst (λ (l : List ℕ). T (proper format l)) (sym wrote_made) wrote-first.proper_pair

  -- well-formed
  pub wrote_formed : T (well_formed (numbers_of format) b)
  wrote_formed = (proper_parts format b wrote-proper).is_well_formed

  -- has the scrambling bits B
  pub wrote-scrambling : scrambling_of (numbers_of format) b ≡ B
  wrote-scrambling =
      ap (scrambling_of (numbers_of format)) wrote_made ∙ scrambling_made (numbers_of format) (facts_of format) (sizes_of format) u B esb wrote-first.scrambling

  -- and the extra shaping bits esb
  pub wrote-shaping : shaping_of (numbers_of format) b ≡ esb
  wrote-shaping =
      ap (shaping_of (numbers_of format)) wrote_made ∙ shaping_made (numbers_of format) (facts_of format) (sizes_of format) u B esb wrote-first.shaping

  -- and carries u
  pub wrote-user_bits : user_bits_of (numbers_of format) b ≡ u
  wrote-user_bits =
      ap (user_bits_of (numbers_of format)) wrote_made
      ∙ user_bits_made (numbers_of format) (facts_of format) (sizes_of format) u B esb w.block.bits w.block.size wrote-first.scrambling
