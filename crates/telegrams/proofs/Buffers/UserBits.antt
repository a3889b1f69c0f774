-- The user bits over the front of a buffer, from the blocks of all words of a telegram. Assumes nothing.
use mathlib.Core.Path.{◌≡◌, sym, ap, ap₂, ◌∙◌}
use mathlib.Core.List.{List, ◌++◌}
use Prim.Native.Nat.{ℕ, ◌/◌}
use lib.ListN.{length, take, drop}
use Rattle.bits.proofs.Groups.{first_groups}
use Rattle.formats.specs.Numbers.{Numbers, blocks}
use Rattle.formats.proofs.Sizes.{Sizes}
use Rattle.scrambling.specs.Scrambling.{descrambled}
use Rattle.scrambling.specs.Sum.{without_sum}
use Rattle.telegrams.specs.Fields.{scrambling_of, unshaped, user_bits_of}
use Rattle.telegrams.proofs.Shaping.{block_of_word, length_block, length-unshaped}

-- u has the blocks of all k words of the telegram b in front; the first m bits are those of the shaped data
module _ (F : Numbers) (S : Sizes F) (b u rest : List ℕ) (k m : ℕ) (k-is : k ≡ F.words) (m_is : m ≡ F.m) (e : u ≡ unshaped k b ++ rest) where
  pub data_blocks : take m u ≡ unshaped (blocks F) b
  data_blocks =
      ap₂ take (m_is ∙ S.m_is) (e ∙ ap (λ (i : ℕ). unshaped i b ++ rest) (k-is ∙ S.words_are)) ∙ first_groups block_of_word 11 10 length_block (blocks F) 10 b rest

  data_size : length (take m u) ≡ F.m
  data_size = ap length data_blocks ∙ length-unshaped (blocks F) b ∙ sym S.m_is

  -- left is old with the user bits over its front
  pub user_bits_lem : (B : ℕ) → B ≡ scrambling_of F b → (old left : List ℕ)
      → left ≡ without_sum (length (take m u) / 10) (descrambled B (take m u)) ++ drop (length (take m u)) old
      → left ≡ user_bits_of F b ++ drop F.m old
  unfolding user_bits_of
  user_bits_lem B B-is old left written =
      written
      ∙ ap (λ (i : ℕ). without_sum (i / 10) (descrambled B (take m u)) ++ drop i old) data_size
      ∙ ap₂ (λ (C : ℕ) (v : List ℕ). without_sum (blocks F) (descrambled C v) ++ drop F.m old) B-is data_blocks
