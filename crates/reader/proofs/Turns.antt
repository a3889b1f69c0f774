-- The turn of a window: where there is one it is below n and has the remainder of the first n bits by f, and where there is none no turn has
-- it (document 01, refusal 7). Assumes nothing.
use Prim.Native.Nat.{ℕ, ◌<◌}
use mathlib.Core.Path.{◌≡◌, refl}
use mathlib.Core.Bool.{true, not}
use mathlib.Core.List.{List}
use mathlib.Core.Logic.{◌↔◌}
use lib.Dec.{T}
use lib.ListN.{take}
use Rattle.bits.proofs.Tests.{clash}
use Rattle.formats.specs.Numbers.{Numbers, f_of}
use Rattle.cyclic.specs.Remainder.{remainder}
use Rattle.cyclic.specs.Check.{turn_remainder}
use Rattle.cyclic.proofs.Laws.{turn_of-at, turn_of_nothing}
use Rattle.reader.specs.Reads.{turn_found, is_turn, which_turn, turn_in}
use Rattle.std.specs.Prelude.{Option, Some, None}

module _ (F : Numbers) (w : List ℕ) where
  -- the turn found
  pub turn_at : is_turn (turn_found F w) ≡ true → turn_found F w ≡ Some (turn_in F w)
  unfolding turn_in
  turn_at h = go (turn_found F w) h
    where
      go : (found : Option ℕ) → is_turn found ≡ true → found ≡ Some (which_turn found)
      go (Some t) e = refl
      go None e = clash cc

  -- is below n, and has the remainder
  pub found-leaves : (t : ℕ) → turn_found F w ≡ Some t → (t < F.n) × (turn_remainder F t ≡ remainder (f_of F) (take F.n w))
  unfolding turn_found
  found-leaves t = turn_of-at F t (remainder (f_of F) (take F.n w))

  pub turn-leaves : is_turn (turn_found F w) ≡ true → (turn_in F w < F.n) × (turn_remainder F (turn_in F w) ≡ remainder (f_of F) (take F.n w))
  turn-leaves h = found-leaves (turn_in F w) (turn_at h)

  -- there is none where no turn below n has the remainder
  pub turn-none : ((t : ℕ) → t < F.n → turn_remainder F t ≡ remainder (f_of F) (take F.n w) → ⊥) → turn_found F w ≡ None
  turn-none none = go (turn_found F w) refl
    where
      go : (found : Option ℕ) → turn_found F w ≡ found → found ≡ None
      go (Some t) e = let at = found-leaves t e in absurd (none t at.0 at.1)
      go None e = refl

  -- refusal 7 applies exactly there
  pub no_turn : T (not (is_turn (turn_found F w))) ↔ ((t : ℕ) → t < F.n → turn_remainder F t ≡ remainder (f_of F) (take F.n w) → ⊥)
  unfolding turn_found
  no_turn = (forth (turn_found F w) refl, λ none. rw (turn-none none) tt)
    where
      forth : (found : Option ℕ) → turn_found F w ≡ found → T (not (is_turn found))
          → (t : ℕ) → t < F.n → turn_remainder F t ≡ remainder (f_of F) (take F.n w) → ⊥
      forth (Some t) e h = absurd h
      forth None e h = turn_of_nothing F (remainder (f_of F) (take F.n w)) e
