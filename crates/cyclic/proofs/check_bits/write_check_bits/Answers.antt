-- `cyclic::check_bits::write_check_bits` meets its contract. The loop's invariant: the first i bits are in place, and the rest of the buffer
-- is as it was. Assumes nothing.
use Rattle.std.proofs.Common.{◌≡◌, ℕ, suc, ◌+◌, ◌-◌, ◌/◌, ◌%◌, ◌^◌, ◌<◌, ◌∷◌, ◌++◌, drop, sym, ap, ◌∙◌, arith}
use Rattle.bits.specs.Bits.{bits_of}
use Rattle.bits.proofs.Numbers.{bits_of-zero, bits_of-suc}
use Rattle.bits.proofs.Rest.{count_done}
use Rattle.bits.proofs.Writer.{written_more, written_done}
use Rattle.formats.specs.Value.{value_of}
use Rattle.cyclic.proofs.check_bits.write_check_bits.Goals as goal

-- the highest of the digits that are left
next : (i x : ℕ) → i < 85 → bits_of (85 - i) x ≡ (x / 2 ^ (84 - i) % 2) ∷ bits_of (85 - (i + 1)) x
next i x h =
    let e : 85 - i ≡ suc (84 - i) = omega arith in
    let e' : 84 - i ≡ 85 - (i + 1) = omega arith in
    ap (λ (k : ℕ). bits_of k x) e ∙ bits_of-suc (84 - i) x ∙ ap (λ (k : ℕ). (x / 2 ^ (84 - i) % 2) ∷ bits_of k x) e'

pub loop-i-preserved : goal.loop-i-preserved
loop-i-preserved c =
    let i = c.loop-i.i in
    let x = value_of c.args.r in
    written_more c.loop-i.invariant (omega arith)
    (next i x c.loop-i-test.true ∙ ap (λ (b : ℕ). b ∷ bits_of (85 - (i + 1)) x) (sym c.coefficient.ensures))

pub returns : goal.returns
returns c =
    let x = value_of c.args.r in
    let all : c.loop-i.i ≡ 85 = omega arith in
    written_done c.loop-i.invariant (ap (λ (k : ℕ). bits_of k x) (count_done c.loop-i-test.false) ∙ bits_of-zero x)
    ∙ ap (λ (n : ℕ). bits_of 85 x ++ drop n c.args.out.now) all
