-- Changed bits, few of them, anywhere in a window, and what a window call answers to them. Refusals 5, 6 and 7 (document 01) are `EndsDiffer`,
-- `NotDivisible` and `NoTurn`.
-- Assumes nothing.
use Rattle.std.specs.Prelude.{ℕ, suc, ◌+◌, ◌≤◌, ◌<◌, Bool, List, [], ◌∷◌, ◌↔◌, ◌≡◌, T, length, Result, Err}
use Rattle.bits.specs.Bits.{all_bits}
use Rattle.bits.specs.Differences.{differences}
use Rattle.formats.specs.declared.format.Format.{Format}
use Rattle.formats.specs.declared.format.Format.TheVariants.{Long, Short}
use Rattle.formats.specs.Numbers.{Numbers, long, short, numbers_of, window_bits}
use Rattle.refusals.specs.declared.Refusal.{Refusal}
use Rattle.refusals.specs.declared.Refusal.TheVariants.{EndsDiffer, NotDivisible, NoTurn}
use Rattle.refusals.specs.Outcome.{Outcome, outcome}
use Rattle.reader.specs.declared.Asked.{Asked}
use Rattle.reader.specs.Windows.{cut}
use Rattle.reader.specs.CutFrom.{is_asked}
use Rattle.reader.specs.Reads.{read_of, read_well_formed_of}
use Rattle.damage.specs.Bursts.{Changed}
use Rattle.damage.specs.Answers.{RefusedWith}
use Rattle.reader.specs.declared.Reading.{Reading}

-- the most changed bits of a window of the format that are surely refused
abbrev pub scatter_limit : Format → ℕ
scatter_limit Long = 14
scatter_limit Short = 16

-- v is w with k bits changed, wherever they are: as many bytes, each 0 or 1, that differ in k places
pub record Scattered (k : ℕ) (w v : List ℕ) : Type 0 where
  pub size : length v ≡ length w
  pub bits : T (all_bits v)
  pub changes : differences w v ≡ k

-- of the two places i and i + n of a window, i below r, that hold the same bit of the telegram, both are changed or neither is
abbrev pub Paired : Numbers → List ℕ → List ℕ → Type 0
Paired F w v = (i : ℕ) → i < F.r → Changed w v i ↔ Changed w v (F.n + i)

-- the answer to v, which is the window w, of the format's length, with k bits changed: refused with one of these
pub record ScatteredRefused (refusals : List Refusal) (format : Format) (k : ℕ) (w v out : List ℕ) (answered : Outcome (Result Reading Refusal)) : Type 0 where
  pub refused : RefusedWith refusals format out answered
  -- lent room, with 5 where only one place of some pair is changed
  pub unpaired : (numbers_of format).m ≤ length out → (Paired (numbers_of format) w v → ⊥) → answered ≡ outcome (Err EndsDiffer) out
  -- with 6 where something is changed, and of each pair both places are or neither is
  pub paired : (numbers_of format).m ≤ length out → 1 ≤ k → Paired (numbers_of format) w v → answered ≡ outcome (Err NotDivisible) out

-- what is asked of a window call
pub record RefusesScattered (read : List ℕ → List ℕ → Outcome (Result Reading Refusal)) : Type 0 where
  -- a window of the set length from a well-formed telegram, or a proper one, upright or flipped, at any turn, with 1 to 14 bits changed (long)
  -- or 1 to 16 (short): refused with 5 or 6
  pub of_its_format : (asked : Asked) (format : Format) (b : List ℕ) → T (is_asked asked format b)
      → (t : ℕ) → t < (numbers_of format).n → (flipped : Bool)
      → (k : ℕ) → 1 ≤ k → k ≤ scatter_limit format
      → (v : List ℕ) → Scattered k (cut (window_bits (numbers_of format)) t flipped b) v
      → (out : List ℕ)
      → ScatteredRefused (EndsDiffer ∷ NotDivisible ∷ []) format k (cut (window_bits (numbers_of format)) t flipped b) v out (read v out)
  -- a window of the long format's length from a short telegram, with 0 to 14 bits changed: refused with 5, 6 or 7
  pub long_from_short : (asked : Asked) (b : List ℕ) → T (is_asked asked Short b)
      → (t : ℕ) → t < short.n → (flipped : Bool)
      → (k : ℕ) → k ≤ scatter_limit Long
      → (v : List ℕ) → Scattered k (cut (window_bits long) t flipped b) v
      → (out : List ℕ)
      → ScatteredRefused (EndsDiffer ∷ NotDivisible ∷ NoTurn ∷ []) Long k (cut (window_bits long) t flipped b) v out (read v out)
  -- with 7 where none is changed
  pub long_unchanged : (asked : Asked) (b : List ℕ) → T (is_asked asked Short b)
      → (t : ℕ) → t < short.n → (flipped : Bool)
      → (out : List ℕ) → long.m ≤ length out → read (cut (window_bits long) t flipped b) out ≡ outcome (Err NoTurn) out

-- of both window calls
pub record ScatteredChanges : Type 0 where
  pub by_read : RefusesScattered read_of
  pub by_read_well_formed : RefusesScattered read_well_formed_of

-- ---- no more can be asked

-- each window of the first kind has one change more that is refused neither with 5 nor with 6, whatever is lent
pub record MissesScattered (read : List ℕ → List ℕ → Outcome (Result Reading Refusal)) : Type 0 where
  pub misses : (asked : Asked) (format : Format) (b : List ℕ) → T (is_asked asked format b)
      → (t : ℕ) → t < (numbers_of format).n → (flipped : Bool)
      → (v : List ℕ) × Scattered (suc (scatter_limit format)) (cut (window_bits (numbers_of format)) t flipped b) v
      × ((out : List ℕ) → (read v out ≡ outcome (Err EndsDiffer) out → ⊥) × (read v out ≡ outcome (Err NotDivisible) out → ⊥))

pub record MoreScattered : Type 0 where
  pub by_read : MissesScattered read_of
  pub by_read_well_formed : MissesScattered read_well_formed_of
