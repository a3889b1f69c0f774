-- A recorder that slips: bits lost at one place of a window, or put in there, and what a window call answers. Refusal 5 (document 01) is
-- `EndsDiffer`.
-- Assumes nothing.
use Rattle.std.specs.Prelude.{ℕ, suc, ◌+◌, ◌-◌, ◌≤◌, ◌<◌, Bool, false, List, [], ◌∷◌, ◌++◌, ◌⊎◌, ◌≡◌, T, length, take, drop, Result, Err}
use Rattle.bits.specs.Bits.{all_bits}
use Rattle.formats.specs.declared.format.Format.{Format}
use Rattle.formats.specs.Numbers.{numbers_of, window_bits}
use Rattle.refusals.specs.declared.Refusal.TheVariants.{EndsDiffer}
use Rattle.refusals.specs.Outcome.{Outcome, outcome}
use Rattle.telegrams.specs.Fields.{well_formed}
use Rattle.reader.specs.declared.Asked.{Asked}
use Rattle.reader.specs.Windows.{cut}
use Rattle.reader.specs.CutFrom.{is_asked}
use Rattle.reader.specs.Reads.{read_of, read_well_formed_of}
use Rattle.damage.specs.Answers.{RefusedWith}
use Rattle.reader.specs.declared.Reading.{Reading}
use Rattle.refusals.specs.declared.Refusal.{Refusal}

-- ---- what a slip is

-- the most bits lost or put in at once that are surely noticed, and how far from either edge of the window the slip must be: so many bits, the
-- slipped ones counted in
abbrev pub slip_limit : ℕ
slip_limit = 4

abbrev pub slip_reach : ℕ
slip_reach = 21

-- the most, and how far from either edge, for a slip of more bits
abbrev pub far_slip_limit : ℕ
far_slip_limit = 10

abbrev pub far_slip_reach : ℕ
far_slip_reach = 76

-- v is a window of size bits, taken while the size + s bits of x were sent: s bits were lost, from the place `place` on; before it are place
-- bits of the window, after it size - place
pub record Lost (reach size s : ℕ) (x v : List ℕ) : Type 0 where
  pub place : ℕ
  pub before : reach ≤ place + s
  pub after : reach + place ≤ size + s
  pub window : v ≡ take place x ++ drop (place + s) x

-- v is a window of size bits, taken while the size - s bits of x were sent: s bits, of any values, were put in at the place `place`; before
-- them are place bits of the window, after them size - s - place
pub record PutIn (reach size s : ℕ) (x v : List ℕ) : Type 0 where
  pub place : ℕ
  pub before : reach ≤ place + s
  pub after : reach + place ≤ size
  pub values : List ℕ
  pub many : length values ≡ s
  pub bits : T (all_bits values)
  pub window : v ≡ take place x ++ (values ++ drop place x)

-- v is a window of size bits with a slip of either kind, of the telegram b going round, from its turn t on, upright or flipped
abbrev pub Slip : ℕ → ℕ → ℕ → ℕ → Bool → List ℕ → List ℕ → Type 0
Slip reach size s t flipped b v = Lost reach size s (cut (size + s) t flipped b) v ⊎ PutIn reach size s (cut (size - s) t flipped b) v

-- ---- what is answered

-- refused with 5
abbrev pub SlipRefused : Format → List ℕ → Outcome (Result Reading Refusal) → Type 0
SlipRefused format out answered = RefusedWith (EndsDiffer ∷ []) format out answered

-- what is asked of a window call: a window of the set length from a well-formed telegram, or a proper one, upright or flipped, at any turn,
-- with 1 to `limit` bits lost at one place, or put in
pub record RefusesSlips (limit reach : ℕ) (read : List ℕ → List ℕ → Outcome (Result Reading Refusal)) : Type 0 where
  pub refuses : (asked : Asked) (format : Format) (b : List ℕ) → T (is_asked asked format b)
      → (t : ℕ) → t < (numbers_of format).n → (flipped : Bool)
      → (s : ℕ) → 1 ≤ s → s ≤ limit
      → (v : List ℕ) → Slip reach (window_bits (numbers_of format)) s t flipped b v
      → (out : List ℕ) → SlipRefused format out (read v out)

-- of both window calls: 1 to 4 bits, and 1 to 10 farther from the edges
pub record Slips : Type 0 where
  pub by_read : RefusesSlips slip_limit slip_reach read_of
  pub by_read_well_formed : RefusesSlips slip_limit slip_reach read_well_formed_of
  pub far_by_read : RefusesSlips far_slip_limit far_slip_reach read_of
  pub far_by_read_well_formed : RefusesSlips far_slip_limit far_slip_reach read_well_formed_of

-- ---- at every place

-- v is a window of the telegram without damage
pub record Undamaged (format : Format) (b : List ℕ) (flipped : Bool) (v : List ℕ) : Type 0 where
  pub turn : ℕ
  pub below : turn < (numbers_of format).n
  pub window : v ≡ cut (window_bits (numbers_of format)) turn flipped b

-- 1 to `limit` bits lost at one place, or put in, wherever that is (the slipped bits alone are the reach): refused with 5, or without damage
pub record SettlesSlips (limit : ℕ) (read : List ℕ → List ℕ → Outcome (Result Reading Refusal)) : Type 0 where
  pub settles : (asked : Asked) (format : Format) (b : List ℕ) → T (is_asked asked format b)
      → (t : ℕ) → t < (numbers_of format).n → (flipped : Bool)
      → (s : ℕ) → 1 ≤ s → s ≤ limit
      → (v : List ℕ) → Slip s (window_bits (numbers_of format)) s t flipped b v
      → (out : List ℕ) → SlipRefused format out (read v out) ⊎ Undamaged format b flipped v

-- of both window calls, 1 to 10 bits
pub record SlipsAnywhere : Type 0 where
  pub by_read : SettlesSlips far_slip_limit read_of
  pub by_read_well_formed : SettlesSlips far_slip_limit read_well_formed_of

-- ---- no more can be asked

-- a window of a well-formed telegram with s bits lost, so far from either edge, that is not refused with 5, whatever is lent
pub record MissesLost (read : List ℕ → List ℕ → Outcome (Result Reading Refusal)) (reach s : ℕ) : Type 0 where
  pub format : Format
  pub telegram : List ℕ
  pub formed : T (well_formed (numbers_of format) telegram)
  pub turn : ℕ
  pub below : turn < (numbers_of format).n
  pub v : List ℕ
  pub lost : Lost reach (window_bits (numbers_of format)) s (cut (window_bits (numbers_of format) + s) turn false telegram) v
  pub missed : (out : List ℕ) → read v out ≡ outcome (Err EndsDiffer) out → ⊥

-- with one bit more, or one bit nearer to an edge; with one bit more, far from both
pub record MissesSlips (read : List ℕ → List ℕ → Outcome (Result Reading Refusal)) : Type 0 where
  pub longer : MissesLost read slip_reach (suc slip_limit)
  pub nearer : MissesLost read (slip_reach - 1) slip_limit
  pub far_longer : MissesLost read far_slip_reach (suc far_slip_limit)

pub record MoreSlips : Type 0 where
  pub by_read : MissesSlips read_of
  pub by_read_well_formed : MissesSlips read_well_formed_of
