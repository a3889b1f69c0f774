-- `telegrams::making::complete` meets its contract: after the settings stand the check bits of all before. Assumes nothing.
use mathlib.Core.Path.{ap}
use Prim.Native.Nat.{ℕ, ◌-◌, ◌≤◌}
use native.Mathlib.Omega.{arith}
use lib.ListN.{length-drop}
use Rattle.formats.specs.Value.{value_of}
use Rattle.formats.proofs.Sizes.{sizes_of}
use Rattle.telegrams.proofs.Buffers.Fronts.{lent_is}
use Rattle.telegrams.proofs.Buffers.Completed.{completed}
use Rattle.telegrams.proofs.making.complete.Goals as goal

pub overflow_sub-checked : goal.overflow_sub-checked
overflow_sub-checked c =
    let last : 85 ≤ c.telegram_bits-checked.result = omega (arith, (sizes_of c.args.format).n_is, c.telegram_bits-checked.ensures) in
    last

pub write_check_bits-requires : goal.write_check_bits-requires
write_check_bits-requires c =
    let last : 85 ≤ c.telegram_bits-checked.result = omega (arith, (sizes_of c.args.format).n_is, c.telegram_bits-checked.ensures) in
    simp (lent_is, length-drop) (omega (arith, last, c.requires.format_in_bounds, c.settle-register.auto.telegram, c.telegram_bits-checked.ensures))

pub returns : goal.returns
returns c =
    let a = c.args in
    let s = c.settle-register in
    completed a.format a.telegram.now a.pair.scrambling a.pair.shaping c.requires.format_in_bounds (c.telegram_bits-checked.result - 85) (value_of s.result)
    s.new.telegram c.write_check_bits.new.out (ap (λ (n : ℕ). n - 85) c.telegram_bits-checked.ensures)
    s.ensures.telegram_after s.ensures.result_value c.write_check_bits.ensures
