-- `cyclic::turning::turn` meets its contract. The loop's invariant: the register has the remainder of turn s, and the search for the
-- turn is the search from s on. Assumes nothing.
use Rattle.cyclic.proofs.Machine.Divisors.{f_low}
use Rattle.cyclic.proofs.Machine.Turns.{Serves, turn_fits, turning_start, turning_more, turning_found, turning_over}
use Rattle.cyclic.proofs.turning.turn.Goals as goal

pub loop-s-init : goal.loop-s-init
loop-s-init c =
    let serves : Serves c.args.format c.f-f.result.low c.telegram_bits-n.result c.unturned-turned.result =
    record { f = f_low c.args.format c.f-f.result c.f-f.ensures; telegram = c.telegram_bits-n.ensures; unturned = c.unturned-turned.ensures } in
    (serves, turning_start serves c.args.remainder)

pub returns-then-turned-remainder : goal.returns-then-turned-remainder
returns-then-turned-remainder c =
    let (serves, turning) = c.loop-s.invariant in
    turning_found serves c.loop-s-test.true c.if-turned-remainder.true turning

pub step-turned-requires-clause-s_bound : goal.step-turned-requires-clause-s_bound
step-turned-requires-clause-s_bound c = turn_fits c.args.format c.loop-s.s c.loop-s.invariant.1.register

pub loop-s-preserved : goal.loop-s-preserved
loop-s-preserved c =
    let (serves, turning) = c.loop-s.invariant in
    (serves, turning_more serves c.loop-s-test.true c.requires c.if-turned-remainder.false c.step-turned.ensures turning)

pub returns : goal.returns
returns c =
    let (serves, turning) = c.loop-s.invariant in
    turning_over serves c.loop-s-test.false turning
