-- The table of conditions 2, 3 and 4: its numbers rise from 10 on, it accepts where all three hold, and a proper telegram is a well-formed one
-- that it accepts. Assumes nothing.
use Prim.Native.Nat.{ℕ, ◌<◌}
use mathlib.Core.Path.{◌≡◌, refl, sym, ap, subst, ◌∙◌}
use mathlib.Core.Bool.{Bool, true, false, not, ◌&&◌}
use mathlib.Core.List.{List, [], ◌∷◌}
use mathlib.Core.Logic.{◌↔◌}
use lib.Dec.{T, ltb, lt→ltb}
use Rattle.bits.proofs.And.{and_left, and_right, and_of}
use Rattle.bits.proofs.Tests.{clash}
use Rattle.formats.specs.declared.format.Format.{Format}
use Rattle.formats.specs.Numbers.{numbers_of}
use Rattle.refusals.specs.declared.Refusal.{Refusal}
use Rattle.refusals.specs.declared.Refusal.TheVariants.{OffStep, Repeating, Thinned}
use Rattle.refusals.specs.Refused.{refusal_number}
use Rattle.refusals.specs.Table.{Verdict, refused, accepted, ◌when◌, verdict, accepts, answer_by, rises_above}
use Rattle.refusals.proofs.Table.{accepts_only}
use Rattle.telegrams.specs.Fields.{well_formed}
use Rattle.conditions.specs.Conditions.{off_step_within, not_repeating, thinned_within, proper}
use Rattle.conditions.specs.FirstFailing.{condition_table, first_failing}
use Rattle.std.specs.Prelude.{Ok, Err, is_ok}

by_verdict : (v : Verdict Refusal) → is_ok (answer_by Err (Ok (tt {0})) v) ≡ accepts v
by_verdict (refused r) = refl
by_verdict accepted = refl

-- what fails tells the verdict
pub first_refused : (v : Verdict Refusal) (r : Refusal) → answer_by Err (Ok (tt {0})) v ≡ Err r → v ≡ refused r
first_refused (refused q) r e = cc
first_refused accepted r e = clash cc

pub none_accepted : (v : Verdict Refusal) → answer_by Err (Ok (tt {0})) v ≡ Ok (tt {0}) → v ≡ accepted
none_accepted (refused q) e = clash cc
none_accepted accepted e = refl

three_rows : (o r t : Bool) → accepts (verdict (OffStep when not o ∷ Repeating when not r ∷ Thinned when not t ∷ [])) ≡ o && (r && t)
unfolding verdict
three_rows false r t = refl
three_rows true false t = refl
three_rows true true false = refl
three_rows true true true = refl

module _ (format : Format) (b : List ℕ) where
  pub conditions_rise : (k : ℕ) → k < 10 → T (rises_above refusal_number k (condition_table format b))
  unfolding rises_above condition_table
  conditions_rise k h = and_of (ltb k 10) true (lt→ltb k 10 h) tt

  all_hold : accepts (verdict (condition_table format b)) ≡ off_step_within format b && (not_repeating format b && thinned_within format b)
  unfolding condition_table
  all_hold = three_rows (off_step_within format b) (not_repeating format b) (thinned_within format b)

  pub failing_is : first_failing format b ≡ answer_by Err (Ok (tt {0})) (verdict (condition_table format b))
  unfolding first_failing
  failing_is = refl

  pub conditions_hold : is_ok (first_failing format b) ≡ off_step_within format b && (not_repeating format b && thinned_within format b)
  conditions_hold = ap is_ok failing_is ∙ by_verdict (verdict (condition_table format b)) ∙ all_hold

  pub proper_tested : T (proper format b) ↔ (T (well_formed (numbers_of format) b) × (verdict (condition_table format b) ≡ accepted))
  unfolding proper
  proper_tested =
      let formed = well_formed (numbers_of format) b in
      let holds = off_step_within format b && (not_repeating format b && thinned_within format b) in (
        λ h. (and_left formed holds h, accepts_only (verdict (condition_table format b)) (subst T (sym all_hold) (and_right formed holds h))),
        λ p. and_of formed holds p.0 (subst T (sym (ap accepts p.1) ∙ all_hold) tt),
      )
