-- `conditions::repeating::shifted_apart` meets its contract: the closure tests each k, at k and at -k. Assumes nothing.
use mathlib.Core.Path.{◌≡◌, refl, ap₂, ◌∙◌}
use mathlib.Core.Bool.{Bool, true, false, ◌&&◌}
use mathlib.Core.List.{List}
use Prim.Native.Nat.{ℕ, ◌+◌, ◌-◌}
use Rattle.std.proofs.Common.{rules}
use Rattle.conditions.specs.Conditions.{from_to, apart, shifted_apart}
use Rattle.conditions.proofs.Each.{each_from_all}
use Rattle.conditions.proofs.repeating.shifted_apart.Goals as goal

-- the answer by the first test and the others
answer : (b : List ℕ) (p : ℕ) (first others : Bool) → first ≡ apart 3 b p 341
    → others ≡ from_to 1 3 (λ (k : ℕ). apart 2 b p (341 + k) && apart 2 b p (341 - k)) → first && others ≡ shifted_apart b p
unfolding shifted_apart
answer b p first others e r = ap₂ ◌&&◌ e r

pub returns-then-apart : goal.returns-then-apart
returns-then-apart c = answer _ _ true _ c.if-apart.ensures (each_from_all _ 1 3 _ _ _ c.all.ensures.ran (λ x b q e. search rules))

pub returns-else-apart : goal.returns-else-apart
returns-else-apart c = c.if-apart.false ∙ answer _ _ false _ c.if-apart.ensures refl
