-- `telegrams::fields::has_control` meets its contract. Assumes nothing.
use mathlib.Core.Path.{◌≡◌, ap, ◌∙◌}
use Prim.Native.Nat.{ℕ, ◌+◌, ◌-◌}
use native.Mathlib.Omega.{arith}
use lib.ListN.{take, drop}
use Rattle.bits.specs.Bits.{same}
use Rattle.formats.proofs.Sizes.{sizes_of}
use Rattle.telegrams.specs.Telegram.{control}
use Rattle.telegrams.specs.Fields.{control_of}
use Rattle.telegrams.proofs.fields.has_control.Goals as goal

pub overflow_sub-at : goal.overflow_sub-at
overflow_sub-at c = omega (arith, (sizes_of c.args.format).n_is)

pub slice_bounds-same-end : goal.slice_bounds-same-end
slice_bounds-same-end c = omega (arith, (sizes_of c.args.format).n_is)

pub returns : goal.returns
unfolding control_of
returns c =
    let t = c.args.telegram.now in
    let n = c.telegram_bits-n.result in
    let three : n - 110 + 3 - (n - 110) ≡ 3 = omega arith in
    c.same.ensures ∙ ap (λ (k : ℕ). same (take k (drop (n - 110) t)) control) three
    ∙ ap (λ (m : ℕ). same (take 3 (drop (m - 110) t)) control) c.telegram_bits-n.ensures
