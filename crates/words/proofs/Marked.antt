-- The rank of a word with the mark of one that the table does not have: it is the number, or tells the kind. Assumes nothing.
use mathlib.Core.Path.{◌≡◌, refl, sym, ap, ◌∙◌}
use mathlib.Core.Bool.{true}
use Prim.Native.Nat.{ℕ, zero, suc, ◌+◌, ◌-◌, ◌*◌, ◌/◌, ◌≤◌, ◌<◌}
use native.Mathlib.Omega.{arith}
use lib.Dec.{eqb}
use lib.ListN.{get_or}
use borrow.Author.Tests.{lt-ltb, le-ltb}
use Rattle.bits.proofs.Tests.{clash}
use Rattle.words.specs.declared.Kind.{Kind}
use Rattle.words.specs.PartsOf64.{present, before}
use Rattle.words.specs.BarredOf64.{group250, group20, kind_marked}
use Rattle.words.specs.Words.{in_group250, in_group20, kind_of, lookup_of}
use Rattle.words.proofs.Ranks.{bit_at, rank, any_told, rank_small}
use Rattle.words.proofs.KindBits.{told250, told20}
use Rattle.words.proofs.FourCases.{barred250_found, barred20-found}
use Rattle.std.specs.Prelude.{Ok, Err}

-- as the code has it, where x and y are of the word's part of the table, and p and q have the bits of its part of the groups of 20 and 250
abbrev pub marked : ℕ → ℕ → ℕ → ℕ → ℕ → ℕ
marked x y p q w = rank x y w + 2048 * (1 - bit_at x w + bit_at p w + 2 * bit_at q w)

module _ (w x : ℕ) (x-is : x ≡ get_or present (w / 64) 0) (y : ℕ) (y-is : y ≡ get_or before (w / 64) 1024)
    (p q : ℕ) (p-is : p ≡ get_or group20 (w / 64) 0) (q-is : q ≡ get_or group250 (w / 64) 0) where
  -- without a mark it is the number
  pub marked_number : marked x y p q w < 2048 → Ok (marked x y p q w) ≡ lookup_of w
  marked_number l = go (bit_at x w) refl
    where
      go : (b : ℕ) → bit_at x w ≡ b → Ok (marked x y p q w) ≡ lookup_of w
      go zero e = absurd (omega arith)
      go (suc b) e =
          let same : marked x y p q w ≡ rank x y w = omega arith in
          ap Ok same ∙ ((any_told w x x-is y y-is).ranked (λ z. omega arith)).1

  -- a bit of a group tells that the word is in it
  in20 : bit_at p w ≡ 1 → in_group20 w ≡ true
  in20 e = sym (told20 w p p-is) ∙ ap (λ (b : ℕ). eqb b 1) e

  in250 : bit_at q w ≡ 1 → in_group250 w ≡ true
  in250 e = sym (told250 w q q-is) ∙ ap (λ (b : ℕ). eqb b 1) e

  -- of a word that the table does not have the mark tells the kind
  kind_told : bit_at x w ≡ 0 → kind_marked (marked x y p q w) ≡ kind_of w
  unfolding kind_marked kind_of
  kind_told absent = go (bit_at q w) (bit_at p w) refl refl
    where
      small : rank x y w < 2048
      small = rank_small w x x-is y y-is

      go : (a b : ℕ) → bit_at q w ≡ a → bit_at p w ≡ b → kind_marked (marked x y p q w) ≡ kind_of w
      go (suc zero) b e f = rw (in250 e, le-ltb (marked x y p q w) 4096 (omega arith), le-ltb (marked x y p q w) 6144 (omega arith))
      go zero (suc zero) e f =
          rw (sym (told250 w q q-is) ∙ ap (λ (b : ℕ). eqb b 1) e, in20 f, le-ltb (marked x y p q w) 4096 (omega arith), lt-ltb (marked x y p q w) 6144 (omega (arith, small)))
      go zero zero e f =
          rw (sym (told250 w q q-is) ∙ ap (λ (b : ℕ). eqb b 1) e, sym (told20 w p p-is) ∙ ap (λ (b : ℕ). eqb b 1) f, lt-ltb (marked x y p q w) 4096 (omega (arith, small)))
      go (suc (suc a)) b e f = absurd (omega arith)
      go zero (suc (suc b)) e f = absurd (omega arith)

  -- a word that the table has is in no group
  unmarked : (b : ℕ) → bit_at x w ≡ suc b → (kind : Kind) → lookup_of w ≡ Err kind → ⊥
  unmarked b e kind f =
      let has = ((any_told w x x-is y y-is).ranked (λ z. omega arith)).1 ∙ f in
      clash cc

  pub marked_kind : 2048 ≤ marked x y p q w → Err (kind_marked (marked x y p q w)) ≡ lookup_of w
  marked_kind l = go (bit_at x w) (bit_at q w) (bit_at p w) refl refl refl
    where
      go : (u a b : ℕ) → bit_at x w ≡ u → bit_at q w ≡ a → bit_at p w ≡ b → Err (kind_marked (marked x y p q w)) ≡ lookup_of w
      go zero a b d e f = ap Err (kind_told d) ∙ (any_told w x x-is y y-is).absent d
      go (suc u) (suc zero) b d e f = absurd (unmarked u d _ (barred250_found w (in250 e)))
      go (suc u) zero (suc zero) d e f = absurd (unmarked u d _ (barred20-found w (in20 f)))
      go (suc u) zero zero d e f = absurd (omega (arith, ((any_told w x x-is y y-is).ranked (λ z. omega arith)).0))
      go (suc u) (suc (suc a)) b d e f = absurd (omega arith)
      go (suc u) zero (suc (suc b)) d e f = absurd (omega arith)
