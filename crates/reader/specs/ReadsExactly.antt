-- What reading a window means (the request, demands 1 and 2; document 01, "When the bench says no"; document 02, No. 2 and No. 11).
-- Assumes nothing.
use Rattle.std.specs.Prelude.{ℕ, ◌≤◌, Bool, ◌≡◌, List, ◌++◌, ◌⊎◌, ◌↔◌, length, drop, Result, Ok, Err}
use Rattle.formats.specs.declared.format.Format.{Format}
use Rattle.formats.specs.Numbers.{numbers_of, window_bits}
use Rattle.refusals.specs.declared.Refusal.{Refusal}
use Rattle.refusals.specs.Refused.{refusal_number}
use Rattle.refusals.specs.Table.{Applies, Lowest, RefusesBy}
use Rattle.refusals.specs.Outcome.{Outcome, outcome, FrontWritten}
use Rattle.conditions.specs.FirstFailing.{condition_table}
use Rattle.reader.specs.declared.Asked.{Asked}
use Rattle.reader.specs.declared.Reading.{Reading}
use Rattle.reader.specs.Reads.{format_of, turn_in, telegram_in, read_table, read_by, read_of, read_well_formed_of}
use Rattle.reader.specs.CutFrom.{CutFrom}

-- format, B, esb, turn, upright or flipped, and the user bits u over the front of the output
abbrev pub gave_block : Format → ℕ → ℕ → ℕ → Bool → List ℕ → List ℕ → Outcome (Result Reading Refusal)
gave_block format B esb t flipped u out =
    outcome (Ok (record { format = format; scrambling = B; shaping = esb; turn = t; flipped = flipped })) (u ++ drop (numbers_of format).m out)

-- demand 1: what a call answers by its table; each quotation is from document 01, "When the bench says no"
pub record ReadAnswers (asked : Asked) (w out : List ℕ) : Type 0 where
  -- "The lowest number that applies is given", and none otherwise
  pub refuses : RefusesBy refusal_number Err (read_table asked (format_of w) (length out) w) (read_by asked w out).answer
  -- "outputs keep every byte"
  pub keeps : (r : Refusal) → (read_by asked w out).answer ≡ Err r → (read_by asked w out).output ≡ out
  -- "Success writes exactly the first n or m bytes; longer outputs keep their tails."
  pub writes : (reading : Reading) → (read_by asked w out).answer ≡ Ok reading
      → FrontWritten (numbers_of reading.format).m out (read_by asked w out).output

-- a window of the format's length, and room for the user bits
pub record LentWindow (format : Format) (w out : List ℕ) : Type 0 where
  pub size : length w ≡ window_bits (numbers_of format)
  pub room : (numbers_of format).m ≤ length out

-- demand 2: "On the same terms the reader accepts a window exactly when it is cut from" a telegram that is as asked "going round, upright or
-- flipped, and gives what that telegram carries" (its bits are 0 or 1, so a window with another byte is cut from none)
pub record ReadsExactly (asked : Asked) (format : Format) (w out : List ℕ) : Type 0 where
  pub accepts : ((reading : Reading) × (o : List ℕ) × (read_by asked w out ≡ outcome (Ok reading) o))
      ↔ ((B : ℕ) × (esb : ℕ) × (t : ℕ) × (flipped : Bool) × (u : List ℕ) × CutFrom asked format w B esb t flipped u)
  -- this format, B, esb, turn, way up and block exactly when it is cut so from a telegram with these
  pub gives : (B esb t : ℕ) (flipped : Bool) (u : List ℕ)
      → (read_by asked w out ≡ gave_block format B esb t flipped u out) ↔ CutFrom asked format w B esb t flipped u

-- document 02, No. 2: what read answers by what read_well_formed does
pub record ReadsStrictly (w out : List ℕ) : Type 0 where
  -- where read_well_formed refuses, read does the same
  pub refused_alike : (r : Refusal) → (read_well_formed_of w out).answer ≡ Err r → read_of w out ≡ read_well_formed_of w out
  -- where it accepts, read does the same if the telegram in the window fails no condition, and otherwise refuses with the lowest of 10, 11
  -- and 12 whose condition it fails, and keeps the output
  pub accepted_or_fails : (reading : Reading) → (read_well_formed_of w out).answer ≡ Ok reading →
      let F = numbers_of reading.format in
      let rows = condition_table reading.format (telegram_in F (turn_in F w) w) in
      (((r : Refusal) → Applies rows r → ⊥) × (read_of w out ≡ read_well_formed_of w out))
      ⊎ ((r : Refusal) × (read_of w out ≡ outcome (Err r) out) × Lowest refusal_number rows r)
