-- The first word of some bits that is not in the table (document 02, No. 13; document 01, "When the bench says no", refusal 9).
-- Assumes nothing.
use Rattle.std.specs.Prelude.{ℕ, ◌*◌, ◌<◌, ◌≡◌, Bool, cond, not, List, T, length, take, drop, Result, Ok, Err}
use Rattle.bits.specs.Bits.{all_bits, number_of}
use Rattle.bits.specs.Search.{first_of, which_found}
use Rattle.formats.specs.Numbers.{Numbers}
use Rattle.words.specs.declared.BadWord.{BadWord}
use Rattle.words.specs.Words.{kind_of, lookup_of, is_word}
use Rattle.telegrams.specs.Telegram.{control}
use Rattle.telegrams.specs.Fields.{control_of, all_words, checked}

-- the eleven bits of the word with index i, counted from 0 at the left
abbrev pub word_at : List ℕ → ℕ → List ℕ
word_at b i = take 11 (drop (11 * i) b)

-- that word is not in the table
unfoldable pub is_bad : List ℕ → ℕ → Bool
is_bad b i = not (is_word (word_at b i))

-- the index of the first of k words that is not in the table; 0 where all are
unfoldable pub first_bad : ℕ → List ℕ → ℕ
first_bad k b = which_found (first_of (is_bad b) 0 k)

-- the word with index i, as refusal 9 tells it
unfoldable pub bad_word_at : List ℕ → ℕ → BadWord
bad_word_at b i = record { kind = kind_of (number_of (word_at b i)); index = i }

-- the first of k words that is not in the table: its kind and its index
unfoldable pub bad_word : ℕ → List ℕ → BadWord
bad_word k b = bad_word_at b (first_bad k b)

-- no error where each of k words is in the table, and else the first that is not
unfoldable pub worded : ℕ → List ℕ → Result (Unit {0}) BadWord
worded k b = cond (all_words k b) (Ok (tt {0})) (Err (bad_word k b))

-- ---- what that means

-- of k words this one is not in the table, is of this kind, and all before it are in the table
pub record IsFirstBad (k : ℕ) (b : List ℕ) (bad : BadWord) : Type 0 where
  pub among : bad.index < k
  pub found : lookup_of (number_of (word_at b bad.index)) ≡ Err bad.kind
  pub before : (i : ℕ) → i < bad.index → T (is_word (word_at b i))

-- all of well-formed but the words: n bits; control 0, 0, 1; the check bits
pub record ControlAndCheck (F : Numbers) (b : List ℕ) : Type 0 where
  pub size : length b ≡ F.n
  pub bits : T (all_bits b)
  pub control_is : control_of F b ≡ control
  pub check : T (checked F b)
