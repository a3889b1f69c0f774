-- `formats::format::Format::window_bits` meets its contract: no window is longer than a long one. Assumes nothing.
use native.Mathlib.Omega.{arith}
use Rattle.formats.proofs.Sizes.{window_between}
use Rattle.formats.proofs.format.Format.window_bits.Goals as goal

pub overflow_add-result : goal.overflow_add-result
overflow_add-result c = omega (arith, window_between c.args.self)
