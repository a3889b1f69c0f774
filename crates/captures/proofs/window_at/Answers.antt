-- `captures::window_at` meets its contract. Assumes nothing.
use mathlib.Core.Path.{sym}
use native.Mathlib.Omega.{arith}
use Rattle.captures.proofs.Places.{window-lent, window_empty}
use Rattle.captures.proofs.window_at.Goals as goal

pub returns-then-capture-size : goal.returns-then-capture-size
returns-then-capture-size c =
    let a = c.args in
    sym (window_empty a.format a.capture.now a.place (omega arith))

pub returns-then-capture-size-2 : goal.returns-then-capture-size-2
returns-then-capture-size-2 c =
    let a = c.args in
    sym (window_empty a.format a.capture.now a.place (omega arith))

pub returns : goal.returns
returns c =
    let a = c.args in
    window-lent a.format a.capture.now a.place c.window_bits-size.result c.window_bits-size.ensures (omega arith)
