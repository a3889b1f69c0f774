-- The verdict of a window goes by its ring and not by the turn: two windows whose ends agree, the first n bits of the one those of the other
-- turned, are accepted together (document 01, "Search, reading and place"; document 02, No. 2).
-- Assumes nothing.
use Rattle.std.specs.Prelude.{ℕ, ◌+◌, ◌%◌, ◌≤◌, Bool, ◌≡◌, List, ◌↔◌, T, length, take, Ok}
use Rattle.formats.specs.declared.format.Format.{Format}
use Rattle.formats.specs.Numbers.{numbers_of, window_bits}
use Rattle.cyclic.specs.Check.{turned}
use Rattle.reader.specs.declared.Asked.{Asked}
use Rattle.reader.specs.declared.Reading.{Reading}
use Rattle.reader.specs.Reads.{ends_agree, read_by}
use Rattle.reader.specs.ReadsExactly.{gave_block}

-- w and v are windows of the format whose ends agree, and the first n bits of v are those of w turned by s
pub record TurnedWindow (format : Format) (w v : List ℕ) (s : ℕ) : Type 0 where
  pub size : length w ≡ window_bits (numbers_of format)
  pub turned_size : length v ≡ window_bits (numbers_of format)
  pub ends : T (ends_agree (numbers_of format) w)
  pub turned_ends : T (ends_agree (numbers_of format) v)
  pub within : s ≤ (numbers_of format).n
  pub turn : take (numbers_of format).n v ≡ turned s (take (numbers_of format).n w)

-- the window is read
abbrev pub IsRead : Asked → List ℕ → List ℕ → Type 0
IsRead asked w out = (reading : Reading) × ((read_by asked w out).answer ≡ Ok reading)

-- each lent an output with room
pub record GoesByRing (asked : Asked) (format : Format) (w v : List ℕ) (s : ℕ) (out other : List ℕ) : Type 0 where
  -- one is accepted exactly when the other is
  pub accepts : IsRead asked w out ↔ IsRead asked v other
  -- and both tell the same but the turn, of which v's is s more, modulo n
  pub gives : (B esb t : ℕ) (flipped : Bool) (u : List ℕ) → read_by asked w out ≡ gave_block format B esb t flipped u out
      → read_by asked v other ≡ gave_block format B esb ((t + s) % (numbers_of format).n) flipped u other
