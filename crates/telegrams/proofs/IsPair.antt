-- B and esb are numbers of twelve and ten bits where they are below 4096 and 1024. Assumes nothing.
use Prim.Native.Nat.{ℕ, ◌<◌}
use mathlib.Core.Logic.{◌↔◌}
use native.Mathlib.Omega.{arith}
use borrow.Author.Tests.{le-leb, leb-true}
use lib.Dec.{T, leb}
use Rattle.bits.proofs.And.{and_left, and_right, and_of}
use Rattle.bits.proofs.Tests.{is_true, holds}
use Rattle.telegrams.specs.Telegram.{is_pair}

pub pair_below : (B esb : ℕ) → T (is_pair B esb) ↔ ((B < 4096) × (esb < 1024))
pair_below B esb =
    let b = leb B 4095 in
    let e = leb esb 1023 in (
      λ h. (
        omega (arith, leb-true B 4095 (is_true b (and_left b e h))),
        omega (arith, leb-true esb 1023 (is_true e (and_right b e h))),
      ),
      λ p. and_of b e (holds b (le-leb B 4095 (omega (arith, p.0)))) (holds e (le-leb esb 1023 (omega (arith, p.1)))),
    )
