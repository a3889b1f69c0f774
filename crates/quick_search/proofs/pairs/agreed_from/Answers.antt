-- `quick_search::pairs::agreed_from` meets its contract. The loop's invariant: the pairs from a up to the end agree. Assumes nothing.
use mathlib.Core.Path.{◌≡◌, sym, subst}
use Prim.Native.Nat.{◌+◌, ◌-◌}
use native.Mathlib.Omega.{arith}
use Rattle.quick_search.specs.Pairs.{AgreedFrom}
use Rattle.quick_search.proofs.Agreeing.{agree_before}
use Rattle.quick_search.proofs.pairs.agreed_from.Goals as goal

pub returns-then-capture-a : goal.returns-then-capture-a
returns-then-capture-a c =
    let a = c.loop-a.a in
    let next : a - 1 + 1 ≡ a = omega arith in
    subst (AgreedFrom c.args.n c.args.capture.now c.args.first c.args.end) (sym next)
    record { from = c.loop-a.invariant.0; within = c.loop-a.auto.a; agree = c.loop-a.invariant.1; differs = λ some same. c.if-capture-a.true same }

pub loop-a-preserved : goal.loop-a-preserved
loop-a-preserved c =
    let a = c.loop-a.a in
    let next : a - 1 + 1 ≡ a = omega arith in
    (omega arith, agree_before c.args.n c.args.capture.now (a - 1) _ c.if-capture-a.false (rw next c.loop-a.invariant.1))

pub returns : goal.returns
returns c =
    let first : c.loop-a.a ≡ c.args.first = omega (arith, c.loop-a.invariant.0) in
    record { from = omega arith; within = c.requires.first_le_end; agree = rw (← first) c.loop-a.invariant.1; differs = λ some. absurd (omega arith) }
