-- `reader::tested::ends_agree` meets its contract, by that of `same`. Assumes nothing.
use mathlib.Core.Path.{sym, ap, ap₂, ◌∙◌}
use mathlib.Core.List.{List}
use Prim.Native.Nat.{ℕ}
use native.Mathlib.Omega.{arith}
use lib.ListN.{take, drop}
use lib.Seq.{length-take-le}
use Rattle.bits.specs.Bits.{same}
use Rattle.telegrams.proofs.Buffers.Fronts.{lent_is}
use Rattle.reader.specs.Reads.{ends_agree}
use Rattle.reader.proofs.tested.ends_agree.Goals as goal

pub slice_bounds-same-end-2 : goal.slice_bounds-same-end-2
slice_bounds-same-end-2 c =
    sym (length-take-le c.extra_bits-r.result c.args.window.now (omega arith))

pub returns : goal.returns
unfolding ends_agree
returns c =
    let w = c.args.window.now in
    c.same.ensures
    ∙ ap (λ (l : List ℕ). same l (take c.extra_bits-r.result w)) (lent_is c.telegram_bits-n.result w)
    ∙ ap₂ (λ (n r : ℕ). same (drop n w) (take r w)) c.telegram_bits-n.ensures c.extra_bits-r.ensures
