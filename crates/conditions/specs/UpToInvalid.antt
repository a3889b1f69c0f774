-- Where a search for a run over a limit goes on: just past the last invalid word. For the contract of a private function. Assumes nothing.
use Rattle.std.specs.Prelude.{ℕ, zero, suc, ◌+◌, ◌*◌, cond, List}
use Rattle.bits.specs.Bits.{around}
use Rattle.words.specs.Words.{is_word}

-- of k words from place p on, round the ring of b, how many there are up to and with the last invalid one; 0 where all are valid
unfoldable pub up_to_invalid : ℕ → ℕ → List ℕ → ℕ
up_to_invalid zero p b = 0
up_to_invalid (suc k) p b = cond (is_word (around 11 (p + 11 * k) b)) (up_to_invalid k p b) (suc k)
