-- Registers by a polynomial h, of which n shifts do nothing: k shifts, 0 < k < n, fix only 0, where a multiple of k is modulo n an exponent
-- c for which x^c+1 has an inverse by h. Assumes nothing.
use Prim.Native.Nat.{ℕ, zero, suc, ◌*◌, ◌%◌, ◌^◌, ◌<◌}
use mathlib.Core.Bool.{Bool, true, false, ◌||◌}
use mathlib.Core.Path.{◌≡◌, refl, sym, ap, ◌∙◌}
use mathlib.Core.List.{List, [], ◌∷◌, ◌++◌}
use borrow.Author.Tests.{eqb-true}
use lib.Dec.{T, eqb}
use lib.ListN.{length}
use Rattle.formats.specs.Polynomial.{product, polynomial, coefficients_below}
use Rattle.cyclic.specs.Remainder.{remainder}
use Rattle.cyclic.proofs.Lists.{Bits, zeros}
use Rattle.cyclic.proofs.Space.{pow, times, times-times, times-nil, times-one, zeros-front}
use Rattle.cyclic.proofs.Products.{times-product, bits_product, two_terms}
use Rattle.cyclic.proofs.Registers.{Reg, Monic, By, one, none}
use Rattle.cyclic.proofs.Quotients.{rem-short, rem_itself, through}
use Rattle.damage.proofs.Shifts.{fixed_times, shifts_mod}

-- x^c+1, c the exponent, has an inverse by h, of degree k + 1
pub record Inverse (k : ℕ) (h : List ℕ) : Type 0 where
  pub exponent : ℕ
  pub some : 0 < exponent
  pub inverse : List ℕ
  pub bits : Bits inverse
  pub leaves_1 : remainder h (product inverse (polynomial (exponent ∷ 0 ∷ []))) ≡ zeros k ++ (1 ∷ [])

-- of i there is a multiple that is modulo n one of the exponents c: c times i^30
unfoldable pub reaches : {k : ℕ} {h : List ℕ} → ℕ → ℕ → List (Inverse k h) → Bool
reaches n i [] = false
reaches n i (o ∷ os) = eqb (i * (o.exponent * i ^ 29) % n) o.exponent || reaches n i os

-- the coefficients below x^m
length-coefficients : (m : ℕ) (es : List ℕ) → length (coefficients_below m es) ≡ m
unfolding coefficients_below
length-coefficients zero es = refl
length-coefficients (suc m) es = ap suc (length-coefficients m es)

length_two_terms : (c : ℕ) → length (polynomial (c ∷ 0 ∷ [])) ≡ suc c
unfolding polynomial
length_two_terms c = ap suc (length-coefficients c (0 ∷ []))

module _ (k : ℕ) (h : List ℕ) (m : Monic (suc k) h) where
  -- h times a register is 0
  h_nil : (s : Reg (suc k)) → times (By k h m) h s ≡ none (suc k)
  h_nil s =
      let M = By k h m in
      ap (times M h) (sym (rem-short k h m s)) ∙ times-times M h s.of (one k) ∙ ap (times M s.of) (rem_itself k h m) ∙ times-nil M s.of

  -- what c shifts fix is 0
  fixed_nil : (o : Inverse k h) (s : Reg (suc k)) → pow (By k h m) o.exponent s ≡ s → s ≡ none (suc k)
  fixed_nil o s e =
      let M = By k h m in
      let c = o.exponent in
      let u = o.inverse in
      let p = polynomial (c ∷ 0 ∷ []) in
      sym (zeros-front M k (1 ∷ []) s ∙ times-one M s) ∙ ap (λ (v : List ℕ). times M v s) (sym o.leaves_1)
      ∙ through k h m M s (product u p) (bits_product u p) (h_nil s) ∙ times-product M u p c s o.bits (length_two_terms c)
      ∙ ap (times M u) (two_terms M c s o.some ∙ ap (λ (x : Reg (suc k)). M.add x s) e ∙ M.self s) ∙ times-nil M u

  module _ (n : ℕ) (round : (s : Reg (suc k)) → pow (By k h m) n s ≡ s) where
    -- what i shifts fix, c shifts fix
    pub fixed_reached : (i : ℕ) (os : List (Inverse k h)) → T (reaches n i os) → (s : Reg (suc k)) → pow (By k h m) i s ≡ s → s ≡ none (suc k)
    unfolding reaches
    fixed_reached i [] t s e = absurd t
    fixed_reached i (o ∷ os) t s e =
        go (eqb (i * (o.exponent * i ^ 29) % n) o.exponent) refl t (λ later. fixed_reached i os later s e)
      where
        go : (b : Bool) → eqb (i * (o.exponent * i ^ 29) % n) o.exponent ≡ b → T (b || reaches n i os)
            → (T (reaches n i os) → s ≡ none (suc k)) → s ≡ none (suc k)
        go true f t others =
            let M = By k h m in
            let c = o.exponent in
            fixed_nil o s
            (ap (λ (j : ℕ). pow M j s) (sym (eqb-true (i * (c * i ^ 29) % n) c f)) ∙ shifts_mod M n round (i * (c * i ^ 29)) s
            ∙ fixed_times M i (c * i ^ 29) s e)
        go false f t others = others t
