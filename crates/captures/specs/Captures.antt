-- What searching a capture answers, and the stretch that it hands back (document 01, "Search, reading and place", and "When the bench
-- says no").
-- Assumes nothing.
use Rattle.std.specs.Prelude.{ℕ, ◌+◌, Bool, cond, not, ◌||◌, List, [], ◌∷◌, ◌++◌, leb, length, take, drop, Result, Ok, Err}
use Rattle.bits.specs.Bits.{all_bits}
use Rattle.bits.specs.Search.{First, first_of, is_found, which_found}
use Rattle.formats.specs.declared.format.Format.{Format}
use Rattle.formats.specs.declared.format.Format.TheVariants.{Long, Short}
use Rattle.formats.specs.Numbers.{long, numbers_of, window_bits}
use Rattle.refusals.specs.declared.Refusal.{Refusal}
use Rattle.refusals.specs.declared.Refusal.TheVariants.{Length, NotBit, OutputShort, NoPlace}
use Rattle.refusals.specs.Refused.{refusal_number}
use Rattle.refusals.specs.Table.{Row, ◌when◌, verdict, answer_by, outcome_by}
use Rattle.refusals.specs.Outcome.{Outcome, outcome}
use Rattle.reader.specs.declared.Asked.TheVariants.{Proper}
use Rattle.reader.specs.Reads.{reading_values, reading_in, user_bits_in, reads_as}
use Rattle.captures.specs.declared.Found.{Found}
use Rattle.reader.specs.declared.Reading.{Reading}

-- the reading of the window at a place
abbrev pub found_with : ℕ → Reading → Found
found_with p reading = record { place = p; reading = reading }

-- the values of each answer: the number, 0 where nothing is refused, and those of the reading, at its place
abbrev pub capture_values : Result Found Refusal → List ℕ
capture_values (Ok found) = 0 ∷ reading_values found.place found.reading
capture_values (Err refusal) = refusal_number refusal ∷ []

-- a capture has at most this many bits
abbrev pub capture_limit : ℕ
capture_limit = 7500

-- the format's window from place p on; empty where all of it does not fit in the capture
unfoldable pub window_at : Format → List ℕ → ℕ → List ℕ
window_at format s p =
    let size = window_bits (numbers_of format) in
    cond (leb (p + size) (length s)) (take size (drop p s)) []

-- read, lent room, accepts it
unfoldable pub accepts_as : Format → List ℕ → ℕ → Bool
accepts_as format s p = reads_as Proper format (window_at format s p)

-- as a long window or as a short one
unfoldable pub accepts_at : List ℕ → ℕ → Bool
accepts_at s p = accepts_as Long s p || accepts_as Short s p

-- the first place at which it does
unfoldable pub first_place : List ℕ → First
first_place s = first_of (accepts_at s) 0 (length s)

-- long before short at one place
unfoldable pub format_at : List ℕ → ℕ → Format
format_at s p = cond (accepts_as Long s p) Long Short

unfoldable pub window_found : List ℕ → ℕ → List ℕ
window_found s p = window_at (format_at s p) s p

unfoldable pub found_at : List ℕ → ℕ → Result Found Refusal
found_at s p = Ok (found_with p (reading_in (format_at s p) (window_found s p)))

-- when each refusal applies to a capture
unfoldable pub search_table : List ℕ → List (Row Refusal)
search_table s =
    Length when not (leb (length s) capture_limit)
    ∷ NotBit when not (all_bits s)
    ∷ NoPlace when not (is_found (first_place s))
    ∷ []

unfoldable pub search_of : List ℕ → Result Found Refusal
search_of s = answer_by Err (found_at s (which_found (first_place s))) (verdict (search_table s))

-- the accepted stretch of the capture, or an empty one
abbrev pub stretch_as : List ℕ → Result Found Refusal → List ℕ
stretch_as s (Ok found) = window_at found.reading.format s found.place
stretch_as s (Err refusal) = []

unfoldable pub stretch_of : List ℕ → List ℕ
stretch_of s = stretch_as s (search_of s)

-- ---- the search that also writes the user bits of the window found; the output has room for those of either format

unfoldable pub search_read_table : ℕ → List ℕ → List (Row Refusal)
search_read_table room s =
    Length when not (leb (length s) capture_limit)
    ∷ NotBit when not (all_bits s)
    ∷ OutputShort when not (leb long.m room)
    ∷ NoPlace when not (is_found (first_place s))
    ∷ []

unfoldable pub found_out : List ℕ → ℕ → List ℕ → Outcome (Result Found Refusal)
found_out s p out =
    let format = format_at s p in
    outcome (found_at s p) (user_bits_in format (window_found s p) ++ drop (numbers_of format).m out)

unfoldable pub search_read_of : List ℕ → List ℕ → Outcome (Result Found Refusal)
search_read_of s out =
    outcome_by Err out (found_out s (which_found (first_place s)) out) (verdict (search_read_table (length out) s))
