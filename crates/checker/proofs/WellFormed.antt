-- A well-formed telegram (document 01, "The telegram, left to right") is one that passes the tests of refusals 1, 2 and 6 to 9. But for the
-- words these are control and check bits, which are right where g divides it and its remainder by f is that of turn 0. Assumes nothing.
use Prim.Native.Nat.{ℕ}
use mathlib.Core.Path.{◌≡◌}
use mathlib.Core.List.{List}
use borrow.Author.Tests.{eq-eqb}
use lib.Dec.{T}
use lib.ListN.{length, drop}
use Rattle.bits.specs.Bits.{all_bits, same}
use Rattle.bits.proofs.And.{and_left, and_right, and_of}
use Rattle.bits.proofs.Equal.{same_equal, same_of}
use Rattle.bits.proofs.Tests.{is_true}
use Rattle.formats.specs.declared.format.Format.{Format}
use Rattle.formats.specs.Numbers.{numbers_of}
use Rattle.formats.proofs.Sizes.{sizes_of}
use Rattle.cyclic.specs.Check.{divisible, unturned}
use Rattle.cyclic.proofs.Formats.{facts_of}
use Rattle.telegrams.specs.Telegram.{control}
use Rattle.telegrams.specs.Fields.{control_of, all_words, well_formed}
use Rattle.telegrams.proofs.Checked.{checked_factors}
use Rattle.telegrams.specs.Worded.{ControlAndCheck}
use Rattle.telegrams.proofs.WellFormed.{parts, but_words, with_words, from_parts}
use Rattle.refusals.specs.declared.Refusal.{Refusal}
use Rattle.refusals.specs.Table.{Verdict}
use Rattle.refusals.proofs.Table.{Decides, passed}
use Rattle.conditions.specs.FirstFailing.{condition_table}
use Rattle.checker.specs.Checking.{check_table}

pub record Formed (format : Format) (b : List ℕ) : Type 0 where
  pub size : length b ≡ (numbers_of format).n
  pub bits : T (all_bits b)
  pub divides : T (divisible (numbers_of format) b)
  pub turn : T (unturned (numbers_of format) b)
  pub has_control : T (same (control_of (numbers_of format) b) control)

pub formed : (format : Format) (b : List ℕ) → ControlAndCheck (numbers_of format) b → Formed format b
formed format b p =
    let F = numbers_of format in
    let factors = (checked_factors F (facts_of format) (sizes_of format) b p.bits p.size).0 p.check in
    record {
      size = p.size;
      bits = p.bits;
      divides = and_left (divisible F b) (unturned F b) factors;
      turn = and_right (divisible F b) (unturned F b) factors;
      has_control = same_of (control_of F b) control p.control_is;
    }

pub control_and_check : (format : Format) (b : List ℕ) → Formed format b → ControlAndCheck (numbers_of format) b
control_and_check format b p =
    let F = numbers_of format in
    let factors = and_of (divisible F b) (unturned F b) p.divides p.turn in
    record {
      size = p.size;
      bits = p.bits;
      control_is = same_equal (control_of F b) control p.has_control;
      check = (checked_factors F (facts_of format) (sizes_of format) b p.bits p.size).1 factors;
    }

-- where these hold, and every word is in the table, it is well-formed
pub is_well_formed : (format : Format) (b : List ℕ) → Formed format b → T (all_words (numbers_of format).words b) → T (well_formed (numbers_of format) b)
is_well_formed format b p words =
    let F = numbers_of format in
    from_parts F b (with_words F b (control_and_check format b p) words)

-- where these hold, the verdict is that of the rows after them
pub formed_passed : (format : Format) (b : List ℕ) → ControlAndCheck (numbers_of format) b → (v : Verdict Refusal)
    → Decides (drop 5 (check_table format b)) v → Decides (check_table format b) v
unfolding check_table
formed_passed format b h v d =
    let F = numbers_of format in
    let p = formed format b h in
    passed (eq-eqb (length b) F.n p.size)
    (passed (is_true (all_bits b) p.bits)
    (passed (is_true (divisible F b) p.divides)
    (passed (is_true (unturned F b) p.turn)
    (passed (is_true (same (control_of F b) control) p.has_control) d))))

-- of a well-formed telegram that of the conditions
pub form_passed : (format : Format) (b : List ℕ) → T (well_formed (numbers_of format) b) → (v : Verdict Refusal)
    → Decides (condition_table format b) v → Decides (check_table format b) v
unfolding check_table
form_passed format b h v d =
    let F = numbers_of format in
    let p = parts F b h in
    formed_passed format b (but_words F b p) v (passed (is_true (all_words F.words b) p.words_in_table) d)
