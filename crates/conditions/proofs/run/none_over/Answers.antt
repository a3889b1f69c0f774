-- `conditions::run::none_over` meets its contract. The loop's invariant: no run over the limit begins at one of the i words passed.
-- Assumes nothing.
use mathlib.Core.Path.{◌≡◌, refl, sym, ap, ◌∙◌}
use mathlib.Core.List.{List}
use Prim.Native.Nat.{ℕ, ◌+◌, ◌≤◌, ◌<◌}
use native.Mathlib.Nat.{mod-lt}
use native.Mathlib.Omega.{arith}
use lib.ListN.{length}
use Rattle.conditions.specs.UpToInvalid.{up_to_invalid}
use Rattle.conditions.proofs.Sought.{sought_none, sought_more, sought_fails, sought_done}
use Rattle.conditions.proofs.UpToInvalid.{up_to_most}
use Rattle.conditions.proofs.run.none_over.Goals as goal

pub loop-i-init : goal.loop-i-init
loop-i-init c =
    let a = c.args in
    (refl, c.requires.are_bits.1, sought_none a.starts a.limit a.b.now a.p)

pub up_to_invalid-past-requires : goal.up_to_invalid-past-requires
up_to_invalid-past-requires c =
    (c.requires.are_bits.0, (c.loop-i.invariant.1, omega (arith, c.loop-i.invariant.0, c.requires.starts_in_bounds)))

pub returns-then-past-eq0 : goal.returns-then-past-eq0
returns-then-past-eq0 c =
    let limit : ℕ = c.args.limit in
    let b : List ℕ = c.args.b.now in
    let at : ℕ = c.loop-i.at in
    let answered : up_to_invalid (limit + 1) at b ≡ c.up_to_invalid-past.result = sym (c.up_to_invalid-past.ensures ∙ ap (λ (k : ℕ). up_to_invalid k at b) c.loop-i.invariant.0) in
    sought_fails _ (limit) (b) _ c.loop-i.i (at) c.loop-i.invariant.2 (omega arith) (answered ∙ c.if-past-eq0.true)

pub overflow_mul-past : goal.overflow_mul-past
overflow_mul-past c =
    let limit : ℕ = c.args.limit in
    let b : List ℕ = c.args.b.now in
    let at : ℕ = c.loop-i.at in
    let answered : up_to_invalid (limit + 1) at b ≡ c.up_to_invalid-past.result = sym (c.up_to_invalid-past.ensures ∙ ap (λ (k : ℕ). up_to_invalid k at b) c.loop-i.invariant.0) in
    let few : c.up_to_invalid-past.result ≤ limit + 1 = omega (arith, answered, up_to_most at b (limit + 1)) in
    omega (arith, few)

pub place_after-at-requires : goal.place_after-at-requires
place_after-at-requires c =
    let limit : ℕ = c.args.limit in
    let b : List ℕ = c.args.b.now in
    let at : ℕ = c.loop-i.at in
    let answered : up_to_invalid (limit + 1) at b ≡ c.up_to_invalid-past.result = sym (c.up_to_invalid-past.ensures ∙ ap (λ (k : ℕ). up_to_invalid k at b) c.loop-i.invariant.0) in
    let few : c.up_to_invalid-past.result ≤ limit + 1 = omega (arith, answered, up_to_most at b (limit + 1)) in
    omega (arith, few)

pub overflow_add-i : goal.overflow_add-i
overflow_add-i c =
    let limit : ℕ = c.args.limit in
    let b : List ℕ = c.args.b.now in
    let at : ℕ = c.loop-i.at in
    let answered : up_to_invalid (limit + 1) at b ≡ c.up_to_invalid-past.result = sym (c.up_to_invalid-past.ensures ∙ ap (λ (k : ℕ). up_to_invalid k at b) c.loop-i.invariant.0) in
    let few : c.up_to_invalid-past.result ≤ limit + 1 = omega (arith, answered, up_to_most at b (limit + 1)) in
    omega (arith, few)

pub loop-i-preserved : goal.loop-i-preserved
loop-i-preserved c =
    let b : List ℕ = c.args.b.now in
    let limit : ℕ = c.args.limit in
    let at : ℕ = c.loop-i.at in
    let answered : up_to_invalid (limit + 1) at b ≡ c.up_to_invalid-past.result = sym (c.up_to_invalid-past.ensures ∙ ap (λ (k : ℕ). up_to_invalid k at b) c.loop-i.invariant.0) in
    let some : 0 < length (b) = omega arith in (
      c.loop-i.invariant.0,
      rw c.place_after-at.ensures (mod-lt _ some),
      rw c.place_after-at.ensures
          (sought_more _ (limit) (b) _ c.loop-i.i (at) c.loop-i.invariant.2 c.up_to_invalid-past.result (omega arith) (omega arith) (answered)),
    )

pub returns : goal.returns
returns c =
    let a = c.args in
    sought_done a.starts a.limit a.b.now _ c.loop-i.i c.loop-i.at c.loop-i.invariant.2 (omega arith)
