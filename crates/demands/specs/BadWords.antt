-- Check of a telegram and reading of its windows name the same bad word (document 02, No. 13), about the calls themselves (`check_of`,
-- `read_by`).
-- Assumes nothing.
use Rattle.std.specs.Prelude.{ℕ, ◌≤◌, ◌<◌, Bool, List, ◌≡◌, length, Err}
use Rattle.formats.specs.declared.format.Format.{Format}
use Rattle.formats.specs.Numbers.{numbers_of, window_bits}
use Rattle.words.specs.declared.BadWord.{BadWord}
use Rattle.refusals.specs.declared.Refusal.TheVariants.{NotWord}
use Rattle.refusals.specs.Outcome.{outcome}
use Rattle.checker.specs.Checking.{format_of, check_of}
use Rattle.reader.specs.declared.Asked.{Asked}
use Rattle.reader.specs.Windows.{cut}
use Rattle.reader.specs.Reads.{read_by}
use Rattle.reader.specs.ReadsExactly.{LentWindow}

-- w is a window of a telegram that check refuses with 9 and this bad word
pub record OfRefused (format : Format) (w : List ℕ) (bad : BadWord) : Type 0 where
  pub telegram : List ℕ
  pub refused : check_of telegram ≡ Err (NotWord bad)
  pub t : ℕ
  pub flipped : Bool
  pub window : w ≡ cut (window_bits (numbers_of format)) t flipped telegram

pub record NamesAlike : Type 0 where
  -- where check refuses a telegram with 9, either window call, lent room, refuses every window of it with 9 and the same kind and index, at
  -- every turn, upright and flipped
  pub windows : (b : List ℕ) (bad : BadWord) → check_of b ≡ Err (NotWord bad)
      → (asked : Asked) (t : ℕ) → t < (numbers_of (format_of b)).n → (flipped : Bool) (out : List ℕ) → (numbers_of (format_of b)).m ≤ length out
      → read_by asked (cut (window_bits (numbers_of (format_of b))) t flipped b) out ≡ outcome (Err (NotWord bad)) out
  -- and a window that is refused so is one of a telegram that check refuses so
  pub telegram : (asked : Asked) (format : Format) (w out : List ℕ) → LentWindow format w out
      → (bad : BadWord) → read_by asked w out ≡ outcome (Err (NotWord bad)) out → OfRefused format w bad
