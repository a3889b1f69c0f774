-- One burst, and what a window call answers to it (document 02, No. 8). The quotations are from there.
-- Assumes nothing.
use Rattle.std.specs.Prelude.{ℕ, suc, ◌+◌, ◌≤◌, ◌<◌, Bool, List, ◌⊎◌, ◌≡◌, T, length, get_or, Result, Err}
use Rattle.bits.specs.Bits.{all_bits}
use Rattle.formats.specs.declared.format.Format.{Format}
use Rattle.formats.specs.Numbers.{Numbers, numbers_of, window_bits}
use Rattle.refusals.specs.declared.Refusal.TheVariants.{EndsDiffer, NotDivisible}
use Rattle.refusals.specs.Outcome.{Outcome, outcome}
use Rattle.reader.specs.declared.Asked.{Asked}
use Rattle.reader.specs.Windows.{cut}
use Rattle.reader.specs.CutFrom.{is_asked}
use Rattle.reader.specs.Reads.{read_of, read_well_formed_of}
use Rattle.reader.specs.declared.Reading.{Reading}
use Rattle.refusals.specs.declared.Refusal.{Refusal}

-- ---- what a burst is

-- at the place j of w, counted from 0 at the left, v has another bit
abbrev pub Changed : List ℕ → List ℕ → ℕ → Type 0
Changed w v j = (j < length w) × (get_or v j 0 ≡ get_or w j 0 → ⊥)

-- the most bits of a burst that is surely refused
abbrev pub burst_limit : ℕ
burst_limit = 75

-- v is w with one burst of at most k bits: as many bytes, each 0 or 1; "at least one bit" changed, "all changed bits lying within" k
-- "consecutive bits of the window", those from the place `from` on
pub record Burst (k : ℕ) (w v : List ℕ) : Type 0 where
  pub size : length v ≡ length w
  pub bits : T (all_bits v)
  pub place : ℕ
  pub changed : Changed w v place
  pub from : ℕ
  pub within : (j : ℕ) → Changed w v j → (from ≤ j) × (j < from + k)

-- ---- what is answered

-- among the first r places of a window of the format, or among the last r, where the repeat is
abbrev pub AtEnds : Numbers → ℕ → Type 0
AtEnds F j = (j < F.r) ⊎ (F.n ≤ j)

-- the answer to v, which is the format's window w with a burst; refusals 5 and 6 are `EndsDiffer` and `NotDivisible`
pub record BurstRefused (format : Format) (w v out : List ℕ) (answered : Outcome (Result Reading Refusal)) : Type 0 where
  -- "The reader, lent room, must refuse, with 5 or 6"; every byte of the output is kept
  pub refused : (answered ≡ outcome (Err EndsDiffer) out) ⊎ (answered ≡ outcome (Err NotDivisible) out)
  -- with 5 where a changed bit is at the ends
  pub with_ends : (j : ℕ) → Changed w v j → AtEnds (numbers_of format) j → answered ≡ outcome (Err EndsDiffer) out
  -- with 6 where none is
  pub without_ends : ((j : ℕ) → Changed w v j → AtEnds (numbers_of format) j → ⊥) → answered ≡ outcome (Err NotDivisible) out

-- what is asked of a window call: "a window of the set length from a proper telegram", or from a well-formed one, "upright or flipped, at any
-- turn", with a burst of at most 75 bits, and room for the user bits
pub record RefusesBursts (read : List ℕ → List ℕ → Outcome (Result Reading Refusal)) : Type 0 where
  pub refuses : (asked : Asked) (format : Format) (b : List ℕ) → T (is_asked asked format b)
      → (t : ℕ) → t < (numbers_of format).n → (flipped : Bool)
      → (v : List ℕ) → Burst burst_limit (cut (window_bits (numbers_of format)) t flipped b) v
      → (out : List ℕ) → (numbers_of format).m ≤ length out
      → BurstRefused format (cut (window_bits (numbers_of format)) t flipped b) v out (read v out)

-- the request, of both window calls
pub record OneBurst : Type 0 where
  pub by_read : RefusesBursts read_of
  pub by_read_well_formed : RefusesBursts read_well_formed_of

-- ---- no more can be asked

-- each such window has a burst of one bit more that is refused neither with 5 nor with 6, whatever is lent
pub record MissesBursts (read : List ℕ → List ℕ → Outcome (Result Reading Refusal)) : Type 0 where
  pub misses : (asked : Asked) (format : Format) (b : List ℕ) → T (is_asked asked format b)
      → (t : ℕ) → t < (numbers_of format).n → (flipped : Bool)
      → (v : List ℕ) × Burst (suc burst_limit) (cut (window_bits (numbers_of format)) t flipped b) v
      × ((out : List ℕ) → (read v out ≡ outcome (Err EndsDiffer) out → ⊥) × (read v out ≡ outcome (Err NotDivisible) out → ⊥))

pub record LongerBurst : Type 0 where
  pub by_read : MissesBursts read_of
  pub by_read_well_formed : MissesBursts read_well_formed_of
