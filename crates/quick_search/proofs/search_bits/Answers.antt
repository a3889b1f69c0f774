-- `quick_search::search_bits` meets its contract: the first place is where a window is read that neither walk has passed. Assumes nothing.
use mathlib.Core.Path.{◌≡◌, sym, ap, subst, ◌∙◌}
use mathlib.Core.List.{List}
use Prim.Native.Nat.{ℕ}
use native.Mathlib.Omega.{arith}
use lib.ListN.{length}
use Rattle.formats.specs.declared.format.Format.{Format}
use Rattle.formats.specs.declared.format.Format.TheVariants.{Long, Short}
use Rattle.refusals.specs.Outcome.{outcome}
use Rattle.captures.specs.declared.Found.{Found}
use Rattle.captures.proofs.FoundAt.{long-found, short-found, nowhere}
use Rattle.quick_search.specs.declared.walk.Walk.{Walk}
use Rattle.quick_search.specs.Stepped.{Stepped}
use Rattle.quick_search.proofs.Passing.{passed_both}
use Rattle.quick_search.proofs.search_bits.Goals as goal
use Rattle.std.specs.Prelude.{Option}

-- what a step tells, by the case of its answer, of the output that was lent
stepped : (format : Format) (s : List ℕ) (p : ℕ) (next : Walk) (after : List ℕ) {out lent : List ℕ} {answer case : Option Found} → lent ≡ out
    → Stepped format s p lent answer next after → answer ≡ case → Stepped format s p out case next after
stepped format s p next after {out = out} {answer = answer} same tells e =
    subst (λ (x : Option Found). Stepped format s p out x next after) e (subst (λ (o : List ℕ). Stepped format s p o answer next after) same tells)

pub returns-in-Some : goal.returns-in-Some
returns-in-Some c =
    let s = c.args.capture.now in
    let (same, long, short) = c.loop-long.invariant in
    let p = c.loop-long.long.place in
    let (at, reads) = stepped Long s p _ _ same c.step.ensures c.in-Some.is in
    let passed = passed_both s p long.none (λ j from below. short.none j from (omega (arith, c.if-long-short.true))) in
    long-found s c.args.output.now p passed c.in-Some.found _ at reads

pub returns-in-Some-step : goal.returns-in-Some-step
returns-in-Some-step c =
    let s = c.args.capture.now in
    let (same, long, short) = c.loop-long.invariant in
    let p = c.loop-long.short.place in
    let (at, reads) = stepped Short s p _ _ same c.step-else-long-short.ensures c.in-Some-step.is in
    let passed = passed_both s p (λ j from below. long.none j from (omega (arith, c.if-long-short.false))) short.none in
    short-found s c.args.output.now p passed (long.none p (omega arith) c.if-long-short.false) c.in-Some-step.found _ at reads

pub returns : goal.returns
returns c =
    let s = c.args.capture.now in
    let (same, long, short) = c.loop-long.invariant in
    let passed =
    passed_both s (length s) (λ j from below. long.none j from (omega (arith, c.if-long-capture.false)))
    (λ j from below. short.none j from (omega (arith, c.if-short-capture.false))) in
    nowhere s c.args.output.now (length s) passed (omega arith) ∙ ap (outcome _) (sym same)
