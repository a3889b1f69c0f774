-- `layers::balise_layers_look_up` meets its contract, case by case. Assumes nothing.
use mathlib.Core.Path.{sym, ap, ◌∙◌}
use Prim.Native.Nat.{ℕ, ◌+◌}
use native.Mathlib.Omega.{arith}
use Rattle.words.proofs.FourCases.{kind_small}
use Rattle.layers.specs.Crossing.{number_or_kind}
use Rattle.layers.proofs.balise_layers_look_up.Goals as goal

pub overflow_add-result : goal.overflow_add-result
overflow_add-result c = record { fits = omega (arith, c.number.ensures, kind_small c.in-Err.kind) }

pub returns-in-Ok : goal.returns-in-Ok
returns-in-Ok c =
    ap number_or_kind (sym c.in-Ok.is ∙ c.look_up-found.ensures)

pub returns-in-Err : goal.returns-in-Err
returns-in-Err c =
    ap (λ (k : ℕ). 1024 + k) c.number.ensures ∙ ap number_or_kind (sym c.in-Err.is ∙ c.look_up-found.ensures)
