-- `formats::register::Register::of` meets its contract. The loop's invariant: the powers of the whole slice are those of the rest added to the sum so far. Assumes nothing.
use mathlib.Core.Path.{◌≡◌}
use lib.Dec.{T}
use lib.ListN.{drop}
use Rattle.formats.specs.Value.{value_of, powers, all_below}
use Rattle.formats.proofs.register.Register.of.Given as goal

abbrev pub invariant-loop-e : goal.invariant-loop-e
invariant-loop-e l =
    (T (all_below 128 (drop l.e-index l.exponents)))
    × (powers 0 l.exponents ≡ powers (value_of l.sum) (drop l.e-index l.exponents))
