-- What searching a capture means, by the places at which read accepts (document 01, "Search, reading and place", last paragraph, and
-- "When the bench says no").
-- Assumes nothing.
use Rattle.std.specs.Prelude.{ℕ, ◌+◌, ◌≤◌, ◌<◌, ◌≡◌, List, [], ◌↔◌, T, length, take, drop, Ok, Err}
use Rattle.bits.specs.Bits.{all_bits}
use Rattle.formats.specs.declared.format.Format.{Format}
use Rattle.formats.specs.declared.format.Format.TheVariants.{Long, Short}
use Rattle.formats.specs.Numbers.{long, numbers_of, window_bits}
use Rattle.refusals.specs.declared.Refusal.{Refusal}
use Rattle.refusals.specs.declared.Refusal.TheVariants.{NoPlace}
use Rattle.refusals.specs.Refused.{refusal_number}
use Rattle.refusals.specs.Table.{RefusesBy}
use Rattle.refusals.specs.Outcome.{outcome}
use Rattle.reader.specs.declared.Reading.{Reading}
use Rattle.reader.specs.Reads.{read_of}
use Rattle.captures.specs.Captures.{capture_limit, window_at, search_table, search_of, stretch_of, search_read_table, search_read_of, found_with}

-- the format's whole window at place p fits in the capture s, and read accepts it with this reading, whatever output with room it is lent
pub record ReadsAt (format : Format) (s : List ℕ) (p : ℕ) (reading : Reading) : Type 0 where
  pub fits : p + window_bits (numbers_of format) ≤ length s
  pub reads : (out : List ℕ) → (numbers_of format).m ≤ length out → (read_of (window_at format s p) out).answer ≡ Ok reading

-- read does not accept the format's window at place p
abbrev pub NotAt : Format → List ℕ → ℕ → Type 0
NotAt format s p = (reading : Reading) → ReadsAt format s p reading → ⊥

-- p is the first place at which read accepts, long before short at one place, and this is the reading there
pub record FirstPlace (s : List ℕ) (p : ℕ) (reading : Reading) : Type 0 where
  pub here : ReadsAt reading.format s p reading
  pub earlier : (j : ℕ) → j < p → (format : Format) → NotAt format s j
  pub long_first : reading.format ≡ Short → NotAt Long s p

-- read accepts at no place
abbrev pub NoneAccepts : List ℕ → Type 0
NoneAccepts s = (p : ℕ) (format : Format) → NotAt format s p

-- a capture that is searched: within the limit, and all bits
abbrev pub Searched : List ℕ → Type 0
Searched s = (length s ≤ capture_limit) × T (all_bits s)

pub record Searches (s : List ℕ) : Type 0 where
  -- "The lowest number that applies is given", and none otherwise
  pub refuses : RefusesBy refusal_number Err (search_table s) (search_of s)
  -- it answers with a place and a reading exactly when that is the first place
  pub finds : (p : ℕ) (reading : Reading) → (search_of s ≡ Ok (found_with p reading)) ↔ (Searched s × FirstPlace s p reading)
  pub no_place : (search_of s ≡ Err NoPlace) ↔ (Searched s × NoneAccepts s)
  -- the accepted stretch of the capture, or an empty one
  pub stretch : (p : ℕ) (reading : Reading) → search_of s ≡ Ok (found_with p reading)
      → stretch_of s ≡ take (window_bits (numbers_of reading.format)) (drop p s)
  pub stretch_length : (p : ℕ) (reading : Reading) → search_of s ≡ Ok (found_with p reading)
      → length (stretch_of s) ≡ window_bits (numbers_of reading.format)
  pub no_stretch : (refusal : Refusal) → search_of s ≡ Err refusal → stretch_of s ≡ []

-- the search that also writes the user bits
pub record SearchReads (s out : List ℕ) : Type 0 where
  pub refuses : RefusesBy refusal_number Err (search_read_table (length out) s) (search_read_of s out).answer
  -- lent room, it answers as the search does
  pub answers : long.m ≤ length out → (search_read_of s out).answer ≡ search_of s
  -- where it answers with a place, so does the search, and read gives of the stretch the reading there and the output as it was left
  pub reads : (p : ℕ) (reading : Reading) → (search_read_of s out).answer ≡ Ok (found_with p reading)
      → (search_of s ≡ Ok (found_with p reading)) × (read_of (stretch_of s) out ≡ outcome (Ok reading) (search_read_of s out).output)
  pub keeps : (r : Refusal) → (search_read_of s out).answer ≡ Err r → (search_read_of s out).output ≡ out
