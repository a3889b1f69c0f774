-- The ends of a window agree where its last r bits repeat the first r, and only there (document 01, refusal 5). Assumes nothing.
use Prim.Native.Nat.{ℕ}
use mathlib.Core.Path.{◌≡◌}
use mathlib.Core.Bool.{true, false}
use mathlib.Core.List.{List}
use lib.ListN.{take, drop}
use Rattle.bits.proofs.Equal.{equal_same, other_same, same_true}
use Rattle.formats.specs.Numbers.{Numbers}
use Rattle.reader.specs.Reads.{ends_agree}

module _ (F : Numbers) (w : List ℕ) where
  pub ends_agree_lem : drop F.n w ≡ take F.r w → ends_agree F w ≡ true
  unfolding ends_agree
  ends_agree_lem e = equal_same (drop F.n w) (take F.r w) e

  pub ends_differ : (drop F.n w ≡ take F.r w → ⊥) → ends_agree F w ≡ false
  unfolding ends_agree
  ends_differ h = other_same (drop F.n w) (take F.r w) h

  pub ends_repeat : ends_agree F w ≡ true → drop F.n w ≡ take F.r w
  unfolding ends_agree
  ends_repeat e = same_true (drop F.n w) (take F.r w) e
