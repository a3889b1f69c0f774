-- The pairs in counting order (document 01, "Search, reading and place"): the pair B, esb stands at place 1024 * B + esb. Assumes nothing.
use mathlib.Core.Path.{◌≡◌, refl, sym, ap, ap₂, ◌∙◌}
use mathlib.Core.List.{List}
use Prim.Native.Nat.{ℕ, ◌+◌, ◌*◌, ◌/◌, ◌%◌, ◌<◌}
use native.Mathlib.Omega.{arith}
use Rattle.bits.specs.Search.{First, found, none}
use Rattle.bits.proofs.Tests.{clash}
use Rattle.formats.specs.declared.format.Format.{Format}
use Rattle.formats.specs.Numbers.{numbers_of}
use Rattle.formats.proofs.Sizes.{sizes_of}
use Rattle.cyclic.proofs.Formats.{facts_of}
use Rattle.telegrams.specs.Telegram.{telegram_of, pair_with}
use Rattle.telegrams.proofs.WellFormed.{made_well_formed}
use Rattle.conditions.specs.Conditions.{proper}
use Rattle.telegrams.specs.declared.Pair.{Pair}
use Rattle.encoder.specs.Encoding.{telegram_at, passes, written}
use Rattle.encoder.specs.Encodes.{wrote_pair}
use Rattle.encoder.specs.Searched.{made_proper, pair_of}
use Rattle.std.specs.Prelude.{Some, None}

module _ (B esb : ℕ) (below : esb < 1024) where
  pub pair_scrambling : (1024 * B + esb) / 1024 ≡ B
  pair_scrambling = omega arith

  pub pair_shaping : (1024 * B + esb) % 1024 ≡ esb
  pair_shaping = omega arith

  -- as the search answers it
  pub pair_searched : pair_of (found (1024 * B + esb)) ≡ Some (pair_with B esb)
  pair_searched = ap₂ (λ C e. Some (pair_with C e)) pair_scrambling pair_shaping

  module _ (format : Format) (u : List ℕ) where
    pub pair_telegram : telegram_at format u (1024 * B + esb) ≡ telegram_of (numbers_of format) u B esb
    unfolding telegram_at
    pair_telegram = ap₂ (telegram_of (numbers_of format) u) pair_scrambling pair_shaping

    -- it passes where it is proper
    pub pair_proper : passes format u (1024 * B + esb) ≡ proper format (telegram_of (numbers_of format) u B esb)
    unfolding passes
    pair_proper = ap (proper format) pair_telegram

    -- and it is written
    pub pair_written : (out : List ℕ) → written format u out (1024 * B + esb) ≡ wrote_pair format u out B esb
    unfolding written
    pair_written out = rw (pair_telegram, pair_scrambling, pair_shaping)

-- equal pairs are of equal numbers
pub same_pair : (B esb C e : ℕ) → pair_with B esb ≡ pair_with C e → (B ≡ C) × (esb ≡ e)
same_pair B esb C e is = (ap (λ (pair : Pair). pair.scrambling) is, ap (λ (pair : Pair). pair.shaping) is)

-- the pair that the search answers
pub searched_pair : (first : First) (B esb : ℕ) → pair_of first ≡ Some (pair_with B esb) → (esb < 1024) × (first ≡ found (1024 * B + esb))
searched_pair (found p) B esb e =
    let same = same_pair (p / 1024) (p % 1024) B esb cc in
    let place : p ≡ 1024 * B + esb = omega (arith, same) in
    (omega (arith, same), ap found place)
searched_pair none B esb e = clash cc

pub searched_none : (first : First) → pair_of first ≡ None → first ≡ none
searched_none (found p) e = clash cc
searched_none none e = refl

-- a made telegram is proper if it passes the tests that are left
made_proper_lem : (format : Format) (u : List ℕ) (B esb : ℕ)
    → made_proper format (telegram_of (numbers_of format) u B esb) ≡ proper format (telegram_of (numbers_of format) u B esb)
unfolding made_proper proper
made_proper_lem format u B esb = rw (made_well_formed (numbers_of format) (facts_of format) (sizes_of format) u B esb)

pub pair_passes : (format : Format) (u : List ℕ) (B esb : ℕ) → esb < 1024
    → made_proper format (telegram_of (numbers_of format) u B esb) ≡ passes format u (1024 * B + esb)
pair_passes format u B esb h = made_proper_lem format u B esb ∙ sym (pair_proper B esb h format u)
