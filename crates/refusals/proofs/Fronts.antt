-- An output with its front written over (document 01, "When the bench says no", the last paragraph). Assumes nothing.
use Prim.Native.Nat.{ℕ, ◌≤◌}
use mathlib.Core.Path.{◌≡◌, refl, sym, ap, ◌∙◌}
use mathlib.Core.List.{List, ◌++◌}
use native.Mathlib.Omega.{arith}
use lib.ListN.{length, take, drop, length-append, length-drop}
use lib.Seq.{take_at, drop_at}
use Rattle.refusals.specs.Outcome.{FrontWritten}

-- k bytes over the front of an output that has room for them
pub front-written : (k : ℕ) (x out : List ℕ) → length x ≡ k → k ≤ length out → FrontWritten k out (x ++ drop k out)
front-written k x out size room =
    record {
      room = room;
      size = omega (arith, length-append x (drop k out), length-drop k out);
      tail = drop_at x (drop k out) k size;
    }

-- fronts that are the same with the same bytes behind them
pub fronts_same : (u v d : List ℕ) → u ++ d ≡ v ++ d → u ≡ v
fronts_same u v d e =
    let sizes : length u ≡ length v = omega (arith, length-append u d, length-append v d, ap length e) in
    sym (take_at u d (length u) refl) ∙ ap (take (length u)) e ∙ take_at v d (length u) (sym sizes)
