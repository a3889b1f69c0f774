-- One try of the search: what it answers and writes by what reading answers there, and the other way round. Assumes nothing.
use mathlib.Core.Path.{◌≡◌, refl, sym, ap, ◌∙◌}
use mathlib.Core.Bool.{Bool, true, false}
use mathlib.Core.List.{List, ◌++◌}
use Prim.Native.Nat.{ℕ, ◌≤◌}
use native.Mathlib.Omega.{arith}
use lib.ListN.{length, drop}
use Rattle.bits.proofs.Tests.{clash, is_true, is_false}
use Rattle.formats.specs.declared.format.Format.{Format}
use Rattle.formats.specs.Numbers.{numbers_of}
use Rattle.formats.proofs.Sizes.{window_between}
use Rattle.refusals.specs.declared.Refusal.{Refusal}
use Rattle.refusals.specs.Outcome.{Outcome, outcome}
use Rattle.reader.specs.declared.Asked.TheVariants.{Proper}
use Rattle.reader.specs.declared.Reading.{Reading}
use Rattle.reader.specs.Reads.{ends_agree, reading_in, user_bits_in, read_as}
use Rattle.reader.proofs.Laws.{reads_size, ends_unread, answered_read, answered_refused}
use Rattle.captures.specs.Captures.{window_at, accepts_as}
use Rattle.captures.specs.Attempts.{attempt_of}
use Rattle.std.specs.Prelude.{Option, Result, Some, None, Ok, Err}
use Rattle.std.specs.Result.{result_ok}

module _ (format : Format) (s : List ℕ) (p : ℕ) (out : List ℕ) where
  pub tried_no : accepts_as format s p ≡ false → attempt_of format s p out ≡ outcome None out
  unfolding attempt_of
  tried_no e = rw e

  tried_yes : accepts_as format s p ≡ true
      → attempt_of format s p out
      ≡ outcome (Some (reading_in format (window_at format s p))) (user_bits_in format (window_at format s p) ++ drop (numbers_of format).m out)
  unfolding attempt_of
  tried_yes e = rw e

  -- ---- from what reading answers

  pub empty_tried : length (window_at format s p) ≡ 0 → attempt_of format s p out ≡ outcome None out
  unfolding accepts_as
  empty_tried e =
      tried_no (is_false (accepts_as format s p) (λ t. absurd (omega (arith, e, reads_size Proper format (window_at format s p) t, window_between format))))

  pub differing_tried : ends_agree (numbers_of format) (window_at format s p) ≡ false → attempt_of format s p out ≡ outcome None out
  unfolding accepts_as
  differing_tried e = tried_no (ends_unread Proper format (window_at format s p) e)

  refused_tried : (r : Refusal) (o : List ℕ) → (numbers_of format).m ≤ length out
      → read_as Proper format (window_at format s p) out ≡ outcome (Err r) o → attempt_of format s p out ≡ outcome None o
  unfolding accepts_as
  refused_tried r o room e =
      let (kept, unread) = answered_refused Proper format (window_at format s p) out r o e in
      tried_no (unread room) ∙ ap (outcome None) (sym kept)

  pub read_tried : (reading : Reading) (o : List ℕ) → read_as Proper format (window_at format s p) out ≡ outcome (Ok reading) o
      → attempt_of format s p out ≡ outcome (Some reading) o
  unfolding accepts_as
  read_tried reading o e =
      let (h, room, reads, writes) = answered_read Proper format (window_at format s p) out reading o e in
      tried_yes (is_true (accepts_as format s p) h) ∙ rw (reads, writes)

  pub answered_tried : (answer : Result Reading Refusal) (o : List ℕ) → (numbers_of format).m ≤ length out
      → read_as Proper format (window_at format s p) out ≡ outcome answer o → attempt_of format s p out ≡ outcome (result_ok answer) o
  answered_tried (Ok reading) o room e = read_tried reading o e
  answered_tried (Err refusal) o room e = refused_tried refusal o room e

  -- ---- what a try tells

  pub tried_reads : (reading : Reading) (o : List ℕ) → attempt_of format s p out ≡ outcome (Some reading) o
      → (accepts_as format s p ≡ true) × (reading ≡ reading_in format (window_at format s p))
      × (o ≡ user_bits_in format (window_at format s p) ++ drop (numbers_of format).m out)
  tried_reads reading o e = go (accepts_as format s p) refl
    where
      go : (t : Bool) → accepts_as format s p ≡ t → (accepts_as format s p ≡ true) × (reading ≡ reading_in format (window_at format s p))
          × (o ≡ user_bits_in format (window_at format s p) ++ drop (numbers_of format).m out)
      go true f =
          let answers = ap (λ (y : Outcome (Option Reading)). y.answer) (sym e ∙ tried_yes f) in
          (f, cc, ap (λ (y : Outcome (Option Reading)). y.output) (sym e ∙ tried_yes f))
      go false f = let answers = ap (λ (y : Outcome (Option Reading)). y.answer) (sym e ∙ tried_no f) in clash cc

  pub tried_nothing : (o : List ℕ) → attempt_of format s p out ≡ outcome None o → (accepts_as format s p ≡ false) × (o ≡ out)
  tried_nothing o e = go (accepts_as format s p) refl
    where
      go : (t : Bool) → accepts_as format s p ≡ t → (accepts_as format s p ≡ false) × (o ≡ out)
      go true f = let answers = ap (λ (y : Outcome (Option Reading)). y.answer) (sym e ∙ tried_yes f) in clash cc
      go false f = (f, ap (λ (y : Outcome (Option Reading)). y.output) (sym e ∙ tried_no f))

-- a try's answer by its case, of the output as it was before
pub tried_as : (format : Format) (s : List ℕ) (p : ℕ) {out lent after : List ℕ} {answer case : Option Reading} → lent ≡ out
    → attempt_of format s p lent ≡ outcome answer after → answer ≡ case → attempt_of format s p out ≡ outcome case after
tried_as format s p {after = after} same tried e =
    ap (attempt_of format s p) (sym same) ∙ tried ∙ ap (λ (x : Option Reading). outcome x after) e
