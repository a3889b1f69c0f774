-- `bits::write_number` meets its contract. The loop's invariant: the first i digits are written, and the lowest k - i come next.
-- Assumes nothing.
use mathlib.Core.Path.{◌≡◌, ap, ◌∙◌}
use mathlib.Core.List.{◌++◌}
use Prim.Native.Nat.{ℕ, ◌+◌, ◌-◌}
use native.Mathlib.Omega.{arith}
use lib.ListN.{drop}
use Rattle.bits.specs.Bits.{bits_of}
use Rattle.bits.proofs.Numbers.{bits_of-zero, bits_of-suc}
use Rattle.bits.proofs.Rest.{count_more, count_done}
use Rattle.bits.proofs.Writer.{written_more, written_done}
use Rattle.bits.proofs.write_number.Goals as goal

pub loop-i-preserved : goal.loop-i-preserved
loop-i-preserved c =
    let k = c.args.k in
    let x = c.args.x in
    written_more c.loop-i.invariant (omega arith)
    (ap (λ (n : ℕ). bits_of n x) (count_more c.loop-i-test.true) ∙ bits_of-suc (k - (c.loop-i.i + 1)) x)

pub returns : goal.returns
returns c =
    let k = c.args.k in
    let x = c.args.x in
    let all : c.loop-i.i ≡ k = omega arith in
    written_done c.loop-i.invariant (ap (λ (n : ℕ). bits_of n x) (count_done c.loop-i-test.false) ∙ bits_of-zero x)
    ∙ ap (λ (n : ℕ). bits_of k x ++ drop n c.args.out.now) all
