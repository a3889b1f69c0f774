-- Condition 3 at word j of a long telegram: the 22 bits from there and those 341 places on. Assumes nothing.
use mathlib.Core.List.{List}
use Prim.Native.Nat.{ℕ, ◌+◌, ◌*◌, ◌≤◌, ◌<◌}
use native.Mathlib.Nat.{zero-add}
use lib.Dec.{T, leb→le}
use Rattle.bits.specs.Bits.{around}
use Rattle.bits.specs.Differences.{differences}
use Rattle.bits.proofs.And.{and_left}
use Rattle.formats.specs.declared.format.Format.TheVariants.{Long}
use Rattle.formats.specs.Numbers.{long}
use Rattle.conditions.specs.Conditions.{apart, shifted_apart, not_repeating}
use Rattle.conditions.proofs.Each.{each_at}

pub word-apart : (b : List ℕ) → T (not_repeating Long b) → (j : ℕ) → j < long.words
    → 3 ≤ differences (around 22 (11 * j) b) (around 22 (11 * j + 341) b)
unfolding not_repeating shifted_apart apart
word-apart b condition j below =
    let word : T (shifted_apart b (11 * j)) = rw zero-add at (each_at (λ (i : ℕ). shifted_apart b (11 * i)) 0 long.words j condition below) in
    leb→le 3 (differences (around 22 (11 * j) b) (around 22 (11 * j + 341) b)) (and_left (apart 3 b (11 * j) 341) _ word)
