-- `telegrams::fields::field` meets its contract. Assumes nothing.
use mathlib.Core.Path.{ap, ◌∙◌}
use Prim.Native.Nat.{ℕ, ◌-◌, ◌^◌, ◌≤◌}
use native.Mathlib.Omega.{arith}
use lib.ListN.{take, drop}
use lib.Pow.{pow_mono}
use Rattle.bits.specs.Bits.{number_of}
use Rattle.bits.proofs.AllBits.{all_bits-drop}
use Rattle.bits.proofs.Parts.{front_below}
use Rattle.formats.proofs.Sizes.{sizes_of}
use Rattle.telegrams.proofs.fields.field.Goals as goal

pub overflow_sub-n : goal.overflow_sub-n
overflow_sub-n c = omega (arith, (sizes_of c.args.format).n_is)

pub number-requires : goal.number-requires
number-requires c =
    let size = (sizes_of c.args.format).n_is in
    (omega arith, (omega arith, c.requires.are_bits))

pub overflow_cast-result : goal.overflow_cast-result
overflow_cast-result c =
    let t = c.args.telegram.now in
    let k = c.args.k in
    let at = c.telegram_bits-n.result - c.args.top in
    let most : 2 ^ k ≤ 2 ^ 12 = pow_mono c.requires.k_le_top.1.1 in
    omega (arith, c.number.ensures, front_below k (drop at t) (all_bits-drop at t c.requires.are_bits), most)

pub returns : goal.returns
returns c =
    let a = c.args in
    c.number.ensures ∙ ap (λ (n : ℕ). number_of (take a.k (drop (n - a.top) a.telegram.now))) c.telegram_bits-n.ensures
