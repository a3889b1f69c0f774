-- Which word refusal 9 names (document 02, No. 13: "refusal 9 now carries the kind and the index of the first bad word, counted from 0 at
-- the left in the turned-back and, if need be, flipped telegram").
-- Assumes nothing.
use Rattle.std.specs.Prelude.{ℕ, ◌<◌, Bool, ◌≡◌, List, ◌↔◌, Err}
use Rattle.formats.specs.declared.format.Format.{Format}
use Rattle.formats.specs.Numbers.{numbers_of, window_bits}
use Rattle.words.specs.declared.BadWord.{BadWord}
use Rattle.refusals.specs.declared.Refusal.TheVariants.{NotWord}
use Rattle.refusals.specs.Outcome.{outcome}
use Rattle.telegrams.specs.Worded.{IsFirstBad, ControlAndCheck}
use Rattle.reader.specs.declared.Asked.{Asked}
use Rattle.reader.specs.Windows.{cut}
use Rattle.reader.specs.Reads.{read_by}

-- w is the window of n + r bits cut at some turn, upright or flipped, from a telegram that has the control and the check bits, and of whose
-- words this is the first that is not in the table
pub record CutFromBad (format : Format) (w : List ℕ) (bad : BadWord) : Type 0 where
  pub telegram : List ℕ
  pub but_words : ControlAndCheck (numbers_of format) telegram
  pub first : IsFirstBad (numbers_of format).words telegram bad
  pub t : ℕ
  pub flipped : Bool
  pub turn : t < (numbers_of format).n
  pub window : w ≡ cut (window_bits (numbers_of format)) t flipped telegram

-- a window of the format, lent room, is refused with 9, this kind and this index exactly when it is cut so: whatever the turn, and whichever
-- way up
pub record NamesBadWord (asked : Asked) (format : Format) (w out : List ℕ) : Type 0 where
  pub names : (bad : BadWord) → (read_by asked w out ≡ outcome (Err (NotWord bad)) out) ↔ CutFromBad format w bad
