-- `scrambling::pass` meets its contract. The loop's invariant: the first i bits that came out are written, and the rest come from the register and
-- the bits not yet passed. Assumes nothing.
use Rattle.std.proofs.Common.{◌≡◌, ℕ, cond, ◌++◌, get_or, drop, ap, ◌∙◌, le_antisymm, ne_eqb, arith}
use Rattle.bits.proofs.AllBits.{all_bits-get_or}
use Rattle.bits.proofs.Writer.{written_none, written_more, written_done}
use Rattle.scrambling.specs.Scrambling.{scrambled, descrambled}
use Rattle.scrambling.proofs.Steps.{undoes, passed_start, passed_more, passed_done}
use Rattle.scrambling.proofs.pass.Goals as goal
use Rattle.scrambling.proofs.pass.Goals.{then-this-ne0, else-this-ne0}

-- the bit that is fed, by the test of UNDO
fed_in : (n x y : ℕ) → (n ≡ 0 → ⊥) → x ≡ cond (undoes n) x y
fed_in n x y h = rw (ne_eqb n 0 h)

fed_out : (n x y : ℕ) → n ≡ 0 → y ≡ cond (undoes n) x y
fed_out n x y e = rw e

pub loop-i-init : goal.loop-i-init
loop-i-init g c = written_none (passed_start (undoes g.row.UNDO) c.args.b c.args.block.now c.new-register.ensures)

pub xor_top-bit_out-requires : goal.xor_top-bit_out-requires
xor_top-bit_out-requires g c = all_bits-get_or c.args.block.now c.loop-i.i c.requires.are_bits

pub fed-register-requires : goal.fed-register-requires
fed-register-requires g c =
    let bit = all_bits-get_or c.args.block.now c.loop-i.i c.requires.are_bits in
    elim c.if-this-ne0.branch [ then-this-ne0 w ↦ omega (arith, bit) | else-this-ne0 w ↦ omega (arith, c.xor_top-bit_out.ensures) ]

pub loop-i-preserved : goal.loop-i-preserved
loop-i-preserved g c =
    let n = g.row.UNDO in
    let block = c.args.block.now in
    let i = c.loop-i.i in
    let x = get_or block i 0 in
    let y = c.xor_top-bit_out.result in
    let fed : c.if-this-ne0.fed ≡ cond (undoes n) x y =
    elim c.if-this-ne0.branch [
      | then-this-ne0 w ↦ w.fed-is ∙ fed_in n x y w.if-this-ne0.true
      | else-this-ne0 w ↦ w.fed-is ∙ fed_out n x y w.if-this-ne0.false
    ] in
    written_more c.loop-i.invariant (omega arith)
    (passed_more (undoes n) c.loop-i.register.state block i c.loop-i-test.true c.xor_top-bit_out.ensures fed c.fed-register.ensures)

pub returns : goal.returns
returns g c =
    let undo = undoes g.row.UNDO in
    let block = c.args.block.now in
    written_done c.loop-i.invariant (passed_done undo c.loop-i.register.state block c.loop-i.i c.loop-i-test.false)
    ∙ ap (λ (n : ℕ). cond undo (descrambled c.args.b block) (scrambled c.args.b block) ++ drop n c.args.out.now)
    (le_antisymm c.loop-i.auto.i-end c.loop-i-test.false)
