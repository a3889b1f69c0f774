-- `captures::attempt` meets its contract: the window does not fit, its ends differ, or what `read_bits` answers. Assumes nothing.
use mathlib.Core.Path.{◌≡◌, sym, ap, ◌∙◌, subst⁻¹}
use mathlib.Core.List.{List}
use Prim.Native.Nat.{ℕ, ◌+◌, ◌≤◌}
use lib.Dec.{T}
use lib.ListN.{length}
use Rattle.bits.specs.Bits.{all_bits}
use Rattle.formats.specs.Numbers.{numbers_of, window_bits}
use Rattle.refusals.specs.Outcome.{outcome}
use Rattle.reader.specs.declared.Asked.TheVariants.{Proper}
use Rattle.reader.specs.Reads.{ends_agree, read_as}
use Rattle.captures.proofs.Places.{window_some, window-length, window_bits_lem}
use Rattle.captures.proofs.Attempts.{empty_tried, differing_tried, answered_tried}
use Rattle.formats.specs.declared.format.Format.{Format}
use Rattle.captures.specs.Captures.{window_at}
use Rattle.captures.proofs.attempt.Goals as goal
use Rattle.std.specs.Prelude.{Option}
use Rattle.reader.specs.declared.Reading.{Reading}

module _ (format : Format) (s : List ℕ) (p : ℕ) (w : List ℕ) (is : w ≡ window_at format s p) (some : length w ≡ 0 → ⊥) where
  -- w is the window there, and not empty: it fits
  fits : p + window_bits (numbers_of format) ≤ length s
  fits = window_some format s p (λ e. some (ap length is ∙ e))

  whole : length w ≡ window_bits (numbers_of format)
  whole = ap length is ∙ window-length format s p fits

pub returns-then-bits-eq0 : goal.returns-then-bits-eq0
returns-then-bits-eq0 c =
    let a = c.args in
    empty_tried a.format a.capture.now a.place a.output.now (ap length (sym c.window_at-bits.ensures) ∙ c.if-bits-eq0.true)

pub ends_agree-requires : goal.ends_agree-requires
ends_agree-requires c = whole c.args.format c.args.capture.now c.args.place _ c.window_at-bits.ensures c.if-bits-eq0.false

pub returns-then-not-ends_agree : goal.returns-then-not-ends_agree
returns-then-not-ends_agree c =
    let a = c.args in
    differing_tried a.format a.capture.now a.place a.output.now
    (ap (ends_agree (numbers_of a.format)) (sym c.window_at-bits.ensures) ∙ sym c.ends_agree.ensures ∙ c.if-not-ends_agree.true)

pub invariant_of-window : goal.invariant_of-window
invariant_of-window c =
    let a = c.args in
    let here = fits a.format a.capture.now a.place _ c.window_at-bits.ensures c.if-bits-eq0.false in record {
      are_bits = subst⁻¹ (λ (w : List ℕ). T (all_bits w)) c.window_at-bits.ensures (window_bits_lem a.format a.capture.now a.place c.requires.are_bits here);
      size = whole a.format a.capture.now a.place _ c.window_at-bits.ensures c.if-bits-eq0.false;
    }

pub returns : goal.returns
returns c =
    let a = c.args in
    let o = c.read_bits.new.output in
    answered_tried a.format a.capture.now a.place a.output.now c.read_bits.result o c.requires.format_in_bounds
    (ap (λ (w : List ℕ). read_as Proper a.format w a.output.now) (sym c.window_at-bits.ensures) ∙ c.read_bits.ensures)
    ∙ ap (λ (x : Option Reading). outcome x o) (sym c.ok.ensures.value)
