-- Where a listing goes on: just after a pair is the next place in counting order, and after the last there is none. Assumes nothing.
use mathlib.Core.Path.{◌≡◌, refl, sym, ap₂, ◌∙◌}
use mathlib.Core.Bool.{Bool, true, false, cond}
use Prim.Native.Nat.{ℕ, suc, ◌+◌, ◌/◌, ◌%◌, ◌≤◌, ◌<◌}
use native.Mathlib.Omega.{arith}
use borrow.Author.Tests.{ltb-true, ltb-false, lt-ltb, le-ltb}
use lib.Dec.{ltb}
use Rattle.refusals.specs.Refused.{pair_count}
use Rattle.lister.specs.Listing.{just_after}
use Rattle.std.specs.Prelude.{Option, Some, None}
use Rattle.telegrams.specs.Telegram.{pair_with}
use Rattle.telegrams.specs.declared.Pair.{Pair}

-- ---- its three cases

module _ (B esb : ℕ) where
  pub next-shaping : esb < 1023 → just_after B esb ≡ Some (pair_with B (esb + 1))
  unfolding just_after
  next-shaping h = rw (lt-ltb esb 1023 h) refl

  pub next-scrambling : 1023 ≤ esb → B < 4095 → just_after B esb ≡ Some (pair_with (B + 1) 0)
  unfolding just_after
  next-scrambling h below = rw (le-ltb esb 1023 h, lt-ltb B 4095 below) refl

  pub last_ended : 1023 ≤ esb → 4095 ≤ B → just_after B esb ≡ None
  unfolding just_after
  last_ended h all = rw (le-ltb esb 1023 h, le-ltb B 4095 all) refl

-- ---- the places

-- a listing that goes on from place p
unfoldable pub onward_at : ℕ → Option Pair
onward_at p = cond (ltb p pair_count) (Some (pair_with (p / 1024) (p % 1024))) None

pub onward_from : (p : ℕ) → p < pair_count → onward_at p ≡ Some (pair_with (p / 1024) (p % 1024))
unfolding onward_at
onward_from p h = rw (lt-ltb p pair_count h) refl

pub onward_ended : (p : ℕ) → pair_count ≤ p → onward_at p ≡ None
unfolding onward_at
onward_ended p h = rw (le-ltb p pair_count h) refl

pub after_place : (q : ℕ) → q < pair_count → just_after (q / 1024) (q % 1024) ≡ onward_at (suc q)
after_place q below = go (ltb (q % 1024) 1023) (ltb (q / 1024) 4095) refl refl
  where
    same_B : q % 1024 < 1023 → just_after (q / 1024) (q % 1024) ≡ onward_at (suc q)
    same_B h =
        let B : q / 1024 ≡ suc q / 1024 = omega arith in
        let esb : q % 1024 + 1 ≡ suc q % 1024 = omega arith in
        next-shaping (q / 1024) (q % 1024) h ∙ ap₂ (λ C e. Some (pair_with C e)) B esb ∙ sym (onward_from (suc q) (omega arith))

    next_B : 1023 ≤ q % 1024 → q / 1024 < 4095 → just_after (q / 1024) (q % 1024) ≡ onward_at (suc q)
    next_B last h =
        let B : q / 1024 + 1 ≡ suc q / 1024 = omega arith in
        let esb : 0 ≡ suc q % 1024 = omega arith in
        next-scrambling (q / 1024) (q % 1024) last h ∙ ap₂ (λ C e. Some (pair_with C e)) B esb ∙ sym (onward_from (suc q) (omega arith))

    at_end : 1023 ≤ q % 1024 → 4095 ≤ q / 1024 → just_after (q / 1024) (q % 1024) ≡ onward_at (suc q)
    at_end last h = last_ended (q / 1024) (q % 1024) last h ∙ sym (onward_ended (suc q) (omega arith))

    go : (more other : Bool) → ltb (q % 1024) 1023 ≡ more → ltb (q / 1024) 4095 ≡ other → just_after (q / 1024) (q % 1024) ≡ onward_at (suc q)
    go true other e f = same_B (ltb-true _ _ e)
    go false true e f = next_B (ltb-false _ _ e) (ltb-true _ _ f)
    go false false e f = at_end (ltb-false _ _ e) (ltb-false _ _ f)
