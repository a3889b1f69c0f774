-- Runs of valid words, on a strip and round a ring (document 01, "Four conditions of a proper telegram").
-- Assumes nothing.
use Rattle.std.specs.Prelude.{ℕ, zero, suc, ◌+◌, max, Bool, true, false, List, [], ◌∷◌, ◌++◌}
use Rattle.bits.specs.Bits.{around}
use Rattle.words.specs.Words.{is_word}

-- of k words from place p on, round the ring of b, which are valid
unfoldable pub valid_words : ℕ → ℕ → List ℕ → List Bool
valid_words zero p b = []
valid_words (suc k) p b = is_word (around 11 p b) ∷ valid_words k (p + 11) b

-- the longest run of valid words, where c valid ones stand before
unfoldable pub longest_after : ℕ → List Bool → ℕ
longest_after c [] = c
longest_after c (true ∷ s) = longest_after (suc c) s
longest_after c (false ∷ s) = max c (longest_after 0 s)

-- the longest run on a strip
abbrev pub longest : List Bool → ℕ
longest s = longest_after 0 s

-- the longest run round a ring; twice its words where all are valid
abbrev pub longest_round : List Bool → ℕ
longest_round s = longest (s ++ s)
