-- `texts::input::read_text` meets its contract. The loop's invariant: the buffer holds the bits of some text, what was read so far. Assumes
-- nothing.
use Rattle.std.proofs.Common.{arith}
use Rattle.std.proofs.lemmas.Result.{err_from_is_err_and}
use Rattle.texts.proofs.SomeText.{some_none, some_more, some_failed}
use Rattle.texts.proofs.input.read_text.Goals as goal

pub loop-init : goal.loop-init
loop-init g c = some_none 0 c.args.bits.now (omega arith)

pub returns-in_err-more : goal.returns-in_err-more
returns-in_err-more g c =
    let p = err_from_is_err_and c.from_residual.result c.from_residual.ensures.1 in
    rw p.1 (some_more 0 c.loop.so_far.count c.loop.bits c.args.bits.now c.loop.invariant c.loop.auto.bits c.in_err-more.ensures)

pub returns-in_default : goal.returns-in_default
returns-in_default g c =
    let read = rw c.in_default.is at c.in_ok-more.ensures in
    some_more 0 c.loop.so_far.count c.loop.bits c.args.bits.now c.loop.invariant c.loop.auto.bits read

pub loop-preserved : goal.loop-preserved
loop-preserved g c =
    let read = rw c.in-Some.is at c.in_ok-more.ensures in
    some_more 0 c.loop.so_far.count c.loop.bits c.args.bits.now c.loop.invariant c.loop.auto.bits read

pub returns : goal.returns
returns g c = some_failed 0 c.loop.so_far.count c.loop.bits c.args.bits.now c.loop.invariant
