-- `captures::search_bits` meets its contract. The loop's invariant: read accepts at none of the places passed, and the output is as it was.
-- Assumes nothing.
use mathlib.Core.Path.{refl, sym, ap, ◌∙◌}
use native.Mathlib.Omega.{arith}
use lib.ListN.{length}
use Rattle.formats.specs.declared.format.Format.TheVariants.{Long, Short}
use Rattle.refusals.specs.Outcome.{outcome}
use Rattle.captures.proofs.Attempts.{tried_as}
use Rattle.captures.proofs.FoundAt.{long_read, short_read, pass, nowhere}
use Rattle.captures.proofs.search_bits.Goals as goal

pub loop-place-init : goal.loop-place-init
loop-place-init c = (refl, λ j h. absurd (omega arith))

pub attempt-requires : goal.attempt-requires
attempt-requires c =
    record { are_bits = c.requires.are_bits; format_in_bounds = omega (arith, ap length c.loop-place.invariant.0, c.requires.m_in_bounds) }

pub returns-in-Some : goal.returns-in-Some
returns-in-Some c =
    let (same, passed) = c.loop-place.invariant in
    long_read _ _ c.loop-place.place passed _ _ (tried_as Long _ _ same c.attempt.ensures c.in-Some.is)

pub attempt-requires-in-loop-place : goal.attempt-requires-in-loop-place
attempt-requires-in-loop-place c =
    record { are_bits = c.requires.are_bits; format_in_bounds = omega (arith, ap length c.loop-place.invariant.0, c.requires.m_in_bounds) }

pub returns-in-Some-attempt : goal.returns-in-Some-attempt
returns-in-Some-attempt c =
    let (same, passed) = c.loop-place.invariant in
    short_read _ _ c.loop-place.place passed _ (tried_as Long _ _ same c.attempt.ensures c.in_default.is) _ _
    (tried_as Short _ _ refl c.attempt-in-loop-place.ensures c.in-Some-attempt.is)

pub loop-place-preserved : goal.loop-place-preserved
loop-place-preserved c =
    let (same, passed) = c.loop-place.invariant in
    let (next, kept) = pass _ _ c.loop-place.place passed _ (tried_as Long _ _ same c.attempt.ensures c.in_default.is) _
    (tried_as Short _ _ refl c.attempt-in-loop-place.ensures c.in_default-attempt.is) in
    (kept, next)

pub returns : goal.returns
returns c =
    let a = c.args in
    nowhere a.capture.now a.output.now c.loop-place.place c.loop-place.invariant.1 (omega arith)
    ∙ ap (outcome _) (sym c.loop-place.invariant.0)
