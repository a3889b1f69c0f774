-- What is taken of a text are bits, no more than the limit, and the text of some bits gives them back. Assumes nothing.
use mathlib.Core.Path.{◌≡◌, refl, sym, ap, ◌∙◌}
use mathlib.Core.Bool.{Bool, true, false, cond}
use mathlib.Core.List.{List, [], ◌∷◌, ◌++◌, append-nil}
use Prim.Native.Nat.{ℕ, zero, suc, ◌+◌, ◌≤◌, ◌<◌}
use native.Mathlib.Omega.{arith}
use borrow.Author.Tests.{lt-ltb, ltb-true}
use lib.Dec.{T, eqb, ltb, lit<}
use lib.ListN.{length, length-append}
use lib.Seq.{append_snoc}
use Rattle.bits.specs.Bits.{all_bits}
use Rattle.bits.proofs.AllBits.{all_bits-nil, all_bits-cons, all_bits_head, all_bits-tail, all_bits-append}
use Rattle.texts.specs.declared.reading.Character.{Character}
use Rattle.texts.specs.declared.reading.Character.TheVariants.{Bit, Skipped, Other}
use Rattle.texts.specs.Reading.{Taken, good, bad, character_of, with_character, next, taken, bits_in}
use Rattle.texts.specs.Writing.{character_for, text_of}
use Rattle.texts.proofs.Taken.{taken-nil, taken-one, taken-append, next_good}

-- bits within a limit
pub record Sound (limit : ℕ) (s : List ℕ) : Type 0 where
  pub are_bits : T (all_bits s)
  pub within : length s ≤ limit

-- a character that is a bit is 0 or 1
abbrev IsBit : Character → Type 0
IsBit (Bit b) = b < 2
IsBit Skipped = Unit {0}
IsBit Other = Unit {0}

picked_bit : (t u v w : Bool) → IsBit (cond t (Bit 0) (cond u (Bit 1) (cond v Skipped (cond w Skipped Other))))
picked_bit true u v w = lit< tt
picked_bit false true v w = lit< tt
picked_bit false false true w = tt
picked_bit false false false true = tt
picked_bit false false false false = tt

is_bit : (byte : ℕ) → IsBit (character_of byte)
unfolding character_of
is_bit byte = picked_bit (eqb byte 48) (eqb byte 49) (eqb byte 10) (eqb byte 13)

picked_sound : (limit : ℕ) (s : List ℕ) (b : ℕ) (t : Bool) → ltb (length s) limit ≡ t → Sound limit s → b < 2
    → Sound limit (bits_in (cond t (good (s ++ b ∷ [])) (bad s)))
picked_sound limit s b true e h k = record {
  are_bits = all_bits-append s (b ∷ []) h.are_bits (all_bits-cons b [] k all_bits-nil);
  within = omega (arith, ltb-true (length s) limit e, length-append s (b ∷ []));
}
picked_sound limit s b false e h k = h

with_sound : (limit : ℕ) (s : List ℕ) (x : Character) → IsBit x → Sound limit s → Sound limit (bits_in (with_character limit s x))
with_sound limit s (Bit b) k h = picked_sound limit s b (ltb (length s) limit) refl h k
with_sound limit s Skipped k h = h
with_sound limit s Other k h = h

pub taken_sound : (limit : ℕ) (t : Taken) (text : List ℕ) → Sound limit (bits_in t) → Sound limit (bits_in (taken limit t text))
unfolding taken next
taken_sound limit t [] h = h
taken_sound limit (good s) (byte ∷ text) h = taken_sound limit (next limit (good s) byte) text (with_sound limit s (character_of byte) (is_bit byte) h)
taken_sound limit (bad s) (byte ∷ text) h = taken_sound limit (bad s) text h

-- a bit's character is read as the bit
read_back : (b : ℕ) → b < 2 → character_of (character_for b) ≡ Bit b
unfolding character_of
read_back zero h = refl
read_back (suc zero) h = refl
read_back (suc (suc b)) h = absurd (omega arith)

one-back : (limit : ℕ) (s : List ℕ) (b : ℕ) → b < 2 → length s < limit → taken limit (good s) (character_for b ∷ []) ≡ good (s ++ b ∷ [])
one-back limit s b h k =
    taken-one limit (good s) (character_for b) ∙ next_good limit s (character_for b) (read_back b h)
    ∙ ap (λ (t : Bool). cond t (good (s ++ b ∷ [])) (bad s)) (lt-ltb (length s) limit k)

pub text_back : (limit : ℕ) (s u : List ℕ) → T (all_bits u) → length s + length u ≤ limit → taken limit (good s) (text_of u) ≡ good (s ++ u)
text_back limit s [] h k = taken-nil limit (good s) ∙ ap good (sym (append-nil s))
text_back limit s (b ∷ u) h k =
    taken-append limit (good s) (character_for b ∷ []) (text_of u)
    ∙ ap (λ (t : Taken). taken limit t (text_of u)) (one-back limit s b (all_bits_head b u h) (omega arith))
    ∙ text_back limit (s ++ b ∷ []) u (all_bits-tail b u h) (omega (arith, length-append s (b ∷ [])))
    ∙ ap good (append_snoc s b u)
