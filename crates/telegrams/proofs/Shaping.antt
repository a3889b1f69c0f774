-- Shaping and its undoing: their lengths and bits, that the words of shaped bits are in the table, and that each undoes the other.
-- Assumes nothing.
use Prim.Native.Nat.{ℕ, ◌*◌, ◌≤◌}
use mathlib.Core.Path.{◌≡◌, sym, ap, subst, ◌∙◌}
use mathlib.Core.Bool.{true, ◌&&◌}
use mathlib.Core.List.{List, [], ◌++◌, append-nil}
use native.Mathlib.Omega.{arith}
use lib.Dec.{T}
use lib.ListN.{length, take}
use lib.Seq.{take_all}
use Rattle.bits.specs.Bits.{all_bits, number_of, bits_of}
use Rattle.bits.proofs.AllBits.{all_bits-bits_of}
use Rattle.bits.proofs.Groups.{length_groups, groups_bits, groups_of_groups, every_group_lem, groups_stay}
use Rattle.bits.proofs.Numbers.{length-bits_of, number_bits}
use Rattle.bits.proofs.Parts.{front_below, front_bits}
use Rattle.words.specs.Words.{word_of, lookup_of, is_word, number_in}
use Rattle.words.proofs.WordBits.{lookup_bits, is_word-word, word_number}
use Rattle.telegrams.specs.Telegram.{shaped}
use Rattle.telegrams.specs.Fields.{all_words, unshaped}
use Rattle.std.specs.Prelude.{Result}
use Rattle.words.specs.declared.Kind.{Kind}

-- the word of a block
abbrev pub word_of_block : List ℕ → List ℕ
word_of_block block = bits_of 11 (word_of (number_of block))

-- the block of a word
abbrev pub block_of_word : List ℕ → List ℕ
block_of_word word = bits_of 10 (number_in (lookup_of (number_of word)))

-- ---- lengths and bits

pub length-word : (block : List ℕ) → length (word_of_block block) ≡ 11
length-word block = length-bits_of 11 (word_of (number_of block))

pub length_block : (word : List ℕ) → length (block_of_word word) ≡ 10
length_block word = length-bits_of 10 (number_in (lookup_of (number_of word)))

pub length-shaped : (k : ℕ) (v : List ℕ) → length (shaped k v) ≡ 11 * k
length-shaped = length_groups word_of_block 10 11 length-word

pub bits_shaped : (k : ℕ) (v : List ℕ) → T (all_bits (shaped k v))
bits_shaped = groups_bits word_of_block 10 (λ block. all_bits-bits_of 11 (word_of (number_of block)))

pub length-unshaped : (k : ℕ) (b : List ℕ) → length (unshaped k b) ≡ 10 * k
length-unshaped = length_groups block_of_word 11 10 length_block

pub bits_unshaped : (k : ℕ) (b : List ℕ) → T (all_bits (unshaped k b))
bits_unshaped = groups_bits block_of_word 11 (λ word. all_bits-bits_of 10 (number_in (lookup_of (number_of word))))

-- ---- shaped bits, whatever stands after them

-- they are words of the table
pub all_words-shaped : (k : ℕ) (v rest : List ℕ) → T (all_bits v) → T (all_words k (shaped k v ++ rest))
all_words-shaped k v rest bits =
    subst T (sym (groups_of_groups word_of_block 10 11 length-word ◌&&◌ true is_word k v rest))
    (every_group_lem (λ block. is_word (word_of_block block)) 10 (λ s h. is_word-word (number_of (take 10 s)) (front_below 10 s h)) k v bits)

-- a block's word has the block's number
block_stays : (v : List ℕ) → T (all_bits v) → 10 ≤ length v → block_of_word (word_of_block (take 10 v)) ≡ take 10 v
block_stays v bits ten =
    ap (λ (r : Result ℕ Kind). bits_of 10 (number_in r)) (lookup_bits (number_of (take 10 v)) (front_below 10 v bits)) ∙ front_bits 10 v bits ten

pub unshaped-shaped : (k : ℕ) (v rest : List ℕ) → T (all_bits v) → 10 * k ≤ length v → unshaped k (shaped k v ++ rest) ≡ take (10 * k) v
unshaped-shaped k v rest bits within =
    groups_of_groups word_of_block 10 11 length-word ◌++◌ [] block_of_word k v rest
    ∙ groups_stay (λ block. true) 10 (λ block. block_of_word (word_of_block block)) (λ s h ten t. block_stays s h ten) k v bits within
    (every_group_lem (λ block. true) 10 (λ s h. tt) k v bits)

-- all of it
pub unshaped_all : (k : ℕ) (v rest : List ℕ) → T (all_bits v) → length v ≡ 10 * k → unshaped k (shaped k v ++ rest) ≡ v
unshaped_all k v rest bits size = unshaped-shaped k v rest bits (omega arith) ∙ take_all (10 * k) v (omega arith)

-- ---- words of the table

-- the word of a word's number is the word
word_stays : (b : List ℕ) → T (all_bits b) → 11 ≤ length b → T (is_word (take 11 b)) → word_of_block (block_of_word (take 11 b)) ≡ take 11 b
word_stays b bits eleven h =
    let i = number_in (lookup_of (number_of (take 11 b))) in
    let known = word_number (take 11 b) h in
    ap (λ (n : ℕ). bits_of 11 (word_of n)) (number_bits 10 i known.0) ∙ ap (bits_of 11) known.1 ∙ front_bits 11 b bits eleven

pub shaped-unshaped : (k : ℕ) (b : List ℕ) → T (all_bits b) → T (all_words k b) → 11 * k ≤ length b → shaped k (unshaped k b) ≡ take (11 * k) b
shaped-unshaped k b bits words within =
    ap (shaped k) (sym (append-nil (unshaped k b)))
    ∙ groups_of_groups block_of_word 11 10 length_block ◌++◌ [] word_of_block k b []
    ∙ groups_stay is_word 11 (λ word. word_of_block (block_of_word word)) word_stays k b bits within words
