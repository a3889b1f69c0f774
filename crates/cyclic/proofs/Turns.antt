-- The n turns of a telegram leave different remainders by f, none of them 0, and `turn_of` finds the one.
-- Assumes nothing.
use Rattle.std.proofs.Common.{◌≡◌, ℕ, zero, suc, ◌+◌, ◌-◌, ◌<◌, not, T, List, [], ◌∷◌, ◌++◌, drop, sym, refl, ap, ◌∙◌, subst₂, append_assoc, add-one, arith, lit<, T_not}
use native.Mathlib.Decide.{dec_lt}
use lib.ListN.{replicate-append-replicate}
use Rattle.bits.specs.Bits.{same}
use Rattle.bits.specs.Search.{First, found, none as missing, first_of}
use Rattle.formats.specs.Numbers.{Numbers, f_of, g_of}
use Rattle.cyclic.specs.Remainder.{step, remainder}
use Rattle.cyclic.specs.Check.{turn_remainder, leaves, turn_from, turn_of}
use Rattle.bits.proofs.And.{and_left, and_right}
use Rattle.bits.proofs.Equal.{same_of, same_true, equal_same}
use Rattle.bits.proofs.First.{Says, first_says, not_both}
use Rattle.bits.proofs.Tests.{clash}
use Rattle.cyclic.proofs.Lists.{zeros}
use Rattle.cyclic.proofs.Space.{pow, pow_X, pow-nil, pow-add, one-turn}
use Rattle.cyclic.proofs.Registers.{Reg, same_bits, Mod, none, tail}
use Rattle.cyclic.proofs.Remainders.{remainder-next}
use Rattle.cyclic.proofs.Facts.{Facts, never}
use Rattle.cyclic.proofs.Cyclic.{mod_f, rem_f, turn_is, g_round}
use Rattle.std.specs.Prelude.{Option, Some, None}

-- what `never` tests: none of the first k shifts of s is o
never_is : (d : ℕ) (t s : Reg (suc d)) (o : List ℕ) (k i : ℕ) → T (never t.of o s.of k) → i < k → (pow (Mod d t) i s).of ≡ o → ⊥
unfolding never pow
never_is d t s o zero i h l e = absurd (omega arith)
never_is d t s o (suc k) zero h l e =
    T_not (same s.of o) (and_left (not (same s.of o)) (never t.of o (step t.of s.of 0) k) h)
    (same_of s.of o e)
never_is d t s o (suc k) (suc i) h l e =
    let M = Mod d t in
    never_is d t (M.X s) o k i (and_right (not (same s.of o)) (never t.of o (step t.of s.of 0) k) h) (omega arith)
    (ap (λ (r : Reg (suc d)). r.of) (pow_X M i s) ∙ e)

module _ (F : Numbers) (A : Facts F) where
  -- fewer than n shifts of g do not give g again
  fresh_is : (k : ℕ) → 0 < k → k < F.n → pow (mod_f F A) k (rem_f F A (g_of F)) ≡ rem_f F A (g_of F) → ⊥
  unfolding pow
  fresh_is zero p l e = absurd (omega arith)
  fresh_is (suc k) p l e =
      let M = mod_f F A in
      let g = rem_f F A (g_of F) in
      never_is 9 (tail 9 (f_of F) A.f_degree) (pow M 1 g) g.of (F.n - 1) k
      (subst₂ (λ (x y : List ℕ). T (never (drop 1 (f_of F)) x y (F.n - 1))) (turn_is F A 0) (turn_is F A 1) A.fresh) (omega arith)
      (ap (λ (r : Reg 10). r.of) (sym (pow-add M k 1 g) ∙ ap (λ (j : ℕ). pow M j g) (add-one k) ∙ e))

  -- the same remainder at two turns, as registers
  turn_registers : (a b : ℕ) → turn_remainder F a ≡ turn_remainder F b
      → pow (mod_f F A) a (rem_f F A (g_of F)) ≡ pow (mod_f F A) b (rem_f F A (g_of F))
  turn_registers a b e = same_bits (sym (turn_is F A a) ∙ e ∙ turn_is F A b)

  -- turns below n with the same remainder are the same
  pub turn_unique : (a b : ℕ) → a < F.n → b < F.n → turn_remainder F a ≡ turn_remainder F b → a ≡ b
  turn_unique a b p q e = go (dec_lt a b) (dec_lt b a)
    where
      go : Dec (a < b) → Dec (b < a) → a ≡ b
      go (yes l) d = absurd (one-turn (mod_f F A) F.n (rem_f F A (g_of F)) (g_round F A) fresh_is a b l q (turn_registers a b e))
      go (no l) (yes r) = absurd (one-turn (mod_f F A) F.n (rem_f F A (g_of F)) (g_round F A) fresh_is b a r p (turn_registers b a (sym e)))
      go (no l) (no r) = omega arith

  -- no turn below n has the remainder 0
  pub turn-never : (a : ℕ) → a < F.n → turn_remainder F a ≡ zeros 10 → ⊥
  turn-never a p e =
      let M = mod_f F A in
      let g = rem_f F A (g_of F) in
      let nil : pow M a g ≡ none 10 = same_bits (sym (turn_is F A a) ∙ e) in
      let back : F.n - a + a ≡ F.n = omega arith in
      let zero-g : g ≡ none 10 =
      sym (g_round F A) ∙ ap (λ (j : ℕ). pow M j g) (sym back) ∙ pow-add M (F.n - a) a g ∙ ap (pow M (F.n - a)) nil ∙ pow-nil M (F.n - a) in
      fresh_is 1 (lit< tt) A.many (ap (pow M 1) zero-g ∙ pow-nil M 1 ∙ sym zero-g)

-- one turn more is one step more
pub turn-next : (F : Numbers) (s : ℕ) → turn_remainder F (s + 1) ≡ step (drop 1 (f_of F)) (turn_remainder F s) 0
unfolding turn_remainder
turn-next F s =
    ap (remainder (f_of F)) (ap (λ (v : List ℕ). g_of F ++ v) (sym (replicate-append-replicate s 1 0)) ∙ sym (append_assoc (g_of F) (zeros s) (0 ∷ [])))
    ∙ remainder-next (f_of F) (g_of F ++ zeros s) 0

-- the turn that is answered is below n and leaves v
pub turn_of-at : (F : Numbers) (t : ℕ) (v : List ℕ) → turn_of F v ≡ Some t → (t < F.n) × (turn_remainder F t ≡ v)
unfolding turn_of
turn_of-at F t v e = go (first_of (leaves F v) 0 F.n) (first_says (leaves F v) 0 F.n) e
  where
    go : (a : First) → Says (leaves F v) 0 F.n a → turn_from a ≡ Some t → (t < F.n) × (turn_remainder F t ≡ v)
    go (found s) f e =
        let at : s ≡ t = cc in
        rw (← at) (omega (arith, f.below), same_true (turn_remainder F s) v f.passed)
    go missing f e = clash cc

-- where none is answered, none below n leaves v
pub turn_of_nothing : (F : Numbers) (v : List ℕ) → turn_of F v ≡ None → (t : ℕ) → t < F.n → turn_remainder F t ≡ v → ⊥
unfolding turn_of
turn_of_nothing F v e t h r = go (first_of (leaves F v) 0 F.n) (first_says (leaves F v) 0 F.n) e
  where
    go : (a : First) → Says (leaves F v) 0 F.n a → turn_from a ≡ None → ⊥
    go (found s) f e = clash cc
    go missing f e = not_both (leaves F v t) (equal_same (turn_remainder F t) v r) (f t (omega arith) (omega arith))

-- from the remainder at a turn, that turn is answered
pub turn_of-turn : (F : Numbers) → Facts F → (t : ℕ) → t < F.n → turn_of F (turn_remainder F t) ≡ Some t
turn_of-turn F A t h = go (turn_of F (turn_remainder F t)) refl
  where
    go : (o : Option ℕ) → turn_of F (turn_remainder F t) ≡ o → turn_of F (turn_remainder F t) ≡ Some t
    go (Some s) e =
        let r = turn_of-at F s (turn_remainder F t) e in
        e ∙ ap Some (turn_unique F A s t r.0 h r.1)
    go None e = absurd (turn_of_nothing F (turn_remainder F t) e t h refl)
