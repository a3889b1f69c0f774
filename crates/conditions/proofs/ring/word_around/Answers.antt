-- `conditions::ring::word_around` meets its contract: where the end is not reached the bits stand on a strip. Assumes nothing.
use mathlib.Core.Path.{sym, ap, ◌∙◌}
use native.Mathlib.Omega.{arith}
use lib.ListN.{drop}
use Rattle.bits.specs.Bits.{number_of}
use Rattle.bits.proofs.AllBits.{all_bits-drop}
use Rattle.bits.proofs.Parts.{front_below}
use Rattle.bits.proofs.Ring.{around_strip}
use Rattle.conditions.proofs.ring.word_around.Goals as goal

pub overflow_cast-result : goal.overflow_cast-result
overflow_cast-result c =
    let a = c.args in
    omega (arith, c.number.ensures, front_below 11 (drop a.p a.b.now) (all_bits-drop a.p a.b.now c.requires.0))

pub returns-then-b-p-ge11 : goal.returns-then-b-p-ge11
returns-then-b-p-ge11 c =
    let a = c.args in
    c.number.ensures ∙ ap number_of (sym (around_strip 11 a.p a.b.now (omega arith)))
