-- `conditions::run::up_to_invalid` meets its contract. The loop's invariant: the words from k on are valid, so that those before decide.
-- Assumes nothing.
use mathlib.Core.Path.{◌≡◌, sym, ap, ◌∙◌}
use mathlib.Core.Bool.{Bool, true, false, cond}
use mathlib.Core.List.{List}
use Prim.Native.Nat.{ℕ, suc, ◌+◌, ◌-◌, ◌*◌, ◌%◌, ◌≤◌, ◌<◌}
use native.Mathlib.Omega.{arith}
use lib.ListN.{length}
use Rattle.bits.specs.Bits.{around}
use Rattle.words.specs.Words.{is_word}
use Rattle.conditions.specs.UpToInvalid.{up_to_invalid}
use Rattle.conditions.proofs.Round.{around-mod}
use Rattle.conditions.proofs.UpToInvalid.{up_to_last}
use Rattle.conditions.proofs.run.up_to_invalid.Goals as goal

-- the last of k words is looked at, at its place round the ring
looked_at : (p k at : ℕ) (b : List ℕ) (t valid : Bool) → 0 < k → at ≡ (p + 11 * (k - 1)) % length b → t ≡ is_word (around 11 at b) → t ≡ valid
    → up_to_invalid k p b ≡ cond valid (up_to_invalid (k - 1) p b) (k - 1 + 1)
looked_at p k at b t valid h place e is =
    let count : k ≡ suc (k - 1) = omega arith in
    let one : suc (k - 1) ≡ k - 1 + 1 = omega arith in
    let tested : is_word (around 11 (p + 11 * (k - 1)) b) ≡ valid =
    sym (e ∙ ap (λ (x : ℕ). is_word (around 11 x b)) place ∙ ap is_word (around-mod 11 (p + 11 * (k - 1)) b)) ∙ is in
    ap (λ (x : ℕ). up_to_invalid x p b) count ∙ up_to_last p b (k - 1) valid tested ∙ ap (cond valid (up_to_invalid (k - 1) p b)) one

-- no word is left
none : (k p : ℕ) (b : List ℕ) → k ≤ 0 → up_to_invalid k p b ≡ 0
unfolding up_to_invalid
none k p b h =
    let zero : k ≡ 0 = omega arith in
    ap (λ (x : ℕ). up_to_invalid x p b) zero

pub returns-then-not-is_word_at : goal.returns-then-not-is_word_at
returns-then-not-is_word_at c =
    sym (c.loop-k.invariant ∙ looked_at _ _ _ _ _ false (omega arith) c.place_after.ensures c.is_word_at.ensures c.if-not-is_word_at.true)

pub loop-k-preserved : goal.loop-k-preserved
loop-k-preserved c =
    c.loop-k.invariant ∙ looked_at _ _ _ _ _ true (omega arith) c.place_after.ensures c.is_word_at.ensures c.if-not-is_word_at.false

pub returns : goal.returns
returns c = sym (c.loop-k.invariant ∙ none _ _ _ (omega arith))
