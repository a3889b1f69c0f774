-- A proper telegram: its four conditions, by name. Assumes nothing.
use mathlib.Core.Bool.{◌&&◌}
use mathlib.Core.List.{List}
use Prim.Native.Nat.{ℕ}
use lib.Dec.{T}
use Rattle.bits.proofs.And.{and_left, and_right}
use Rattle.formats.specs.declared.format.Format.{Format}
use Rattle.formats.specs.Numbers.{numbers_of}
use Rattle.telegrams.specs.Fields.{well_formed}
use Rattle.conditions.specs.Conditions.{off_step_within, not_repeating, thinned_within, proper}

pub record Proper (format : Format) (b : List ℕ) : Type 0 where
  pub is_well_formed : T (well_formed (numbers_of format) b)
  pub off_step : T (off_step_within format b)
  pub no_repeats : T (not_repeating format b)
  pub thinned : T (thinned_within format b)

module _ (format : Format) (b : List ℕ) where
  pub proper_parts : T (proper format b) → Proper format b
  unfolding proper
  proper_parts h =
      let w = well_formed (numbers_of format) b in
      let o = off_step_within format b in
      let r = not_repeating format b in
      let t = thinned_within format b in
      let conditions = and_right w (o && (r && t)) h in
      let last = and_right o (r && t) conditions in
      record {
        is_well_formed = and_left w (o && (r && t)) h;
        off_step = and_left o (r && t) conditions;
        no_repeats = and_left r t last;
        thinned = and_right r t last;
      }
