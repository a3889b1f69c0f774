-- `bits::same` meets its contract: two slices are equal where they are as long and equal place by place. Assumes nothing.
use mathlib.Core.Path.{◌≡◌, refl, ap, ◌∙◌}
use mathlib.Core.Bool.{Bool, ◌&&◌}
use mathlib.Core.List.{List, [], ◌∷◌}
use Prim.Native.Nat.{ℕ}
use lib.Dec.{eqb}
use lib.Pointwise.{pointwise}
use Rattle.bits.specs.Bits.{same}
use Rattle.bits.proofs.same.Goals as goal

pointwise-same : (u v : List ℕ) → pointwise eqb u v ≡ same u v
unfolding same
pointwise-same [] [] = refl
pointwise-same [] (b ∷ v) = refl
pointwise-same (a ∷ u) [] = refl
pointwise-same (a ∷ u) (b ∷ v) = ap (λ (t : Bool). eqb a b && t) (pointwise-same u v)

pub returns : goal.returns
returns c = c.eq.ensures ∙ pointwise-same c.args.a.now c.args.b.now
