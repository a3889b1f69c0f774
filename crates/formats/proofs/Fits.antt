-- The format that a length picks, for any kind of input whose lengths in the two formats differ (document 01, "What the bench takes in").
-- Assumes nothing.
use Prim.Native.Nat.{ℕ}
use mathlib.Core.Path.{◌≡◌, sym, ◌∙◌}
use mathlib.Core.Bool.{not}
use mathlib.Core.Logic.{◌↔◌}
use native.Mathlib.Omega.{arith}
use borrow.Author.Tests.{eq-eqb, ne_eqb}
use lib.Dec.{T, eqb}
use Rattle.formats.specs.declared.format.Format.{Format}
use Rattle.formats.specs.declared.format.Format.TheVariants.{Long, Short}
use Rattle.formats.specs.Numbers.{Numbers, long, short, numbers_of, window_bits, format_for}

module _ (length_of : Numbers → ℕ) (apart : length_of long ≡ length_of short → ⊥) where
  -- a format's length picks it
  pub picks : (format : Format) (size : ℕ) → size ≡ length_of (numbers_of format) → format_for (length_of short) size ≡ format
  unfolding format_for
  picks Long size e = rw (ne_eqb size (length_of short) (λ f. apart (sym e ∙ f)))
  picks Short size e = rw (eq-eqb size (length_of short) e)

  -- no two formats have one length
  pub one_format : (size : ℕ) (f g : Format) → size ≡ length_of (numbers_of f) → size ≡ length_of (numbers_of g) → f ≡ g
  one_format size f g d e = sym (picks f size d) ∙ picks g size e

  -- the row of refusal 1: the length is not that of the format it picks, exactly where it is that of none
  pub fits_none : (size : ℕ)
      → T (not (eqb size (length_of (numbers_of (format_for (length_of short) size))))) ↔ ((format : Format) → size ≡ length_of (numbers_of format) → ⊥)
  fits_none size = (forth, λ h. rw (ne_eqb size (length_of (numbers_of (format_for (length_of short) size))) (h (format_for (length_of short) size))) tt)
    where
      forth : T (not (eqb size (length_of (numbers_of (format_for (length_of short) size))))) → (format : Format) → size ≡ length_of (numbers_of format) → ⊥
      forth t format e = rw (picks format size e, eq-eqb size (length_of (numbers_of format)) e) at t

-- ---- the kinds of input

pub blocks-apart : long.m ≡ short.m → ⊥
blocks-apart e = omega arith

pub telegrams_apart : long.n ≡ short.n → ⊥
telegrams_apart e = omega arith

pub windows_apart : window_bits long ≡ window_bits short → ⊥
windows_apart e = omega arith
