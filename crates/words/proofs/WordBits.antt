-- The eleven bits of a word: its number, and whether the table has it. Assumes nothing.
use mathlib.Core.Path.{◌≡◌, refl, sym, ap, subst, ◌∙◌}
use mathlib.Core.List.{List}
use Prim.Native.Nat.{ℕ, ◌<◌}
use lib.Dec.{T}
use Rattle.bits.specs.Bits.{number_of, bits_of}
use Rattle.bits.proofs.Numbers.{number_bits}
use Rattle.words.specs.Words.{word_of, lookup_of, is_word, number_in}
use Rattle.words.proofs.Rules.{word_bits}
use Rattle.words.proofs.Numbers.{lookup_word, lookup_number}
use Rattle.std.specs.Prelude.{Result, Ok, Err, is_ok}
use Rattle.words.specs.declared.Kind.{Kind}

-- those of the word of i
pub lookup_bits : (i : ℕ) → i < 1024 → lookup_of (number_of (bits_of 11 (word_of i))) ≡ Ok i
lookup_bits i h = ap lookup_of (number_bits 11 (word_of i) (word_bits i h)) ∙ lookup_word i h

pub is_word-word : (i : ℕ) → i < 1024 → T (is_word (bits_of 11 (word_of i)))
unfolding is_word
is_word-word i h = subst (λ (r : Result ℕ Kind). T (is_ok r)) (sym (lookup_bits i h)) tt

-- a word that is in the table is the word of its number
pub word_number : (w : List ℕ) → T (is_word w)
    → (number_in (lookup_of (number_of w)) < 1024) × (word_of (number_in (lookup_of (number_of w))) ≡ number_of w)
unfolding is_word
word_number w h = go (lookup_of (number_of w)) refl h
  where
    go : (r : Result ℕ Kind) → lookup_of (number_of w) ≡ r → T (is_ok r) → (number_in r < 1024) × (word_of (number_in r) ≡ number_of w)
    go (Ok i) e t = lookup_number (number_of w) i e
    go (Err kind) e t = absurd t
