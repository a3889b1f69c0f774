-- Going through the places from 0 up: what the two tries at a place tell, where nothing is accepted at an earlier one. Assumes nothing.
use mathlib.Core.Path.{◌≡◌, sym, ap, ◌∙◌}
use mathlib.Core.Bool.{true, false}
use mathlib.Core.List.{List, ◌++◌}
use mathlib.Core.Logic.{⊎_elim}
use Prim.Native.Nat.{ℕ, ◌+◌, ◌<◌}
use native.Mathlib.Nat.{eq-or-lt_of_le}
use native.Mathlib.Omega.{arith}
use lib.ListN.{length, drop}
use Rattle.bits.proofs.Tests.{holds}
use Rattle.formats.specs.declared.format.Format.{Format}
use Rattle.formats.specs.declared.format.Format.TheVariants.{Long, Short}
use Rattle.formats.specs.Numbers.{short, numbers_of, window_bits}
use Rattle.formats.proofs.Sizes.{window_between}
use Rattle.refusals.specs.declared.Refusal.{Refusal}
use Rattle.refusals.specs.declared.Refusal.TheVariants.{NoPlace}
use Rattle.refusals.specs.Outcome.{outcome}
use Rattle.reader.specs.declared.Asked.TheVariants.{Proper}
use Rattle.reader.specs.declared.Reading.{Reading}
use Rattle.reader.specs.Reads.{reading_in, user_bits_in, read_as}
use Rattle.captures.specs.Captures.{window_at, accepts_as, accepts_at, first_place, format_at, window_found, found_at, found_out, found_with}
use Rattle.captures.specs.Attempts.{attempt_of, out_found}
use Rattle.captures.proofs.Places.{accepts_fits, long_there, short_there, neither_there, Passed, found_there, none_there}
use Rattle.captures.proofs.Attempts.{tried_no, read_tried, tried_reads, tried_nothing}
use Rattle.std.specs.Prelude.{Result, Some, None, Ok, Err}
use Rattle.captures.specs.declared.Found.{Found}

-- the place and the reading of what is found
abbrev place_of : Result Found Refusal → ℕ
place_of (Ok f) = f.place
place_of (Err refusal) = 0

abbrev reading_of : Reading → Result Found Refusal → Reading
reading_of otherwise (Ok f) = f.reading
reading_of otherwise (Err refusal) = otherwise

pub same_found : {p q : ℕ} {x y : Reading} → ◌≡◌ {A = Result Found Refusal} (Ok (found_with p x)) (Ok (found_with q y)) → (p ≡ q) × (x ≡ y)
same_found {p} {q} {x} {y} e = (ap place_of e, ap (reading_of x) e)

-- what is found at a place of the format
pub found_as : (s : List ℕ) (p : ℕ) (format : Format) → format_at s p ≡ format → found_at s p ≡ Ok (found_with p (reading_in format (window_at format s p)))
unfolding found_at window_found
found_as s p format e = rw e

pub out_as : (s : List ℕ) (p : ℕ) (out : List ℕ) (format : Format) → format_at s p ≡ format
    → found_out s p out
    ≡ outcome (Ok (found_with p (reading_in format (window_at format s p)))) (user_bits_in format (window_at format s p) ++ drop (numbers_of format).m out)
unfolding found_out found_at window_found
out_as s p out format e = rw e

module _ (s out : List ℕ) (p : ℕ) (passed : Passed s p) where
  -- the first place is p, and a window of the format is read there
  read_there : (format : Format) (reading : Reading) (o : List ℕ) → attempt_of format s p out ≡ outcome (Some reading) o
      → accepts_at s p ≡ true → format_at s p ≡ format → out_found s out (first_place s) ≡ outcome (Ok (found_with p reading)) o
  read_there format reading o e at is =
      let (accepted, reads, writes) = tried_reads format s p out reading o e in
      let fits = accepts_fits format s p (holds (accepts_as format s p) accepted) in
      ap (out_found s out) (found_there s p passed at (omega (arith, fits, window_between format))) ∙ out_as s p out format is ∙ rw (reads, writes)

  -- a long window is read
  pub long_read : (reading : Reading) (o : List ℕ) → attempt_of Long s p out ≡ outcome (Some reading) o
      → out_found s out (first_place s) ≡ outcome (Ok (found_with p reading)) o
  long_read reading o e =
      let (at, is) = long_there s p (tried_reads Long s p out reading o e).0 in
      read_there Long reading o e at is

  module _ (between : List ℕ) (no_long : attempt_of Long s p out ≡ outcome None between) where
    kept : between ≡ out
    kept = (tried_nothing Long s p out between no_long).1

    -- no long one, and a short one is read
    pub short_read : (reading : Reading) (o : List ℕ) → attempt_of Short s p between ≡ outcome (Some reading) o
        → out_found s out (first_place s) ≡ outcome (Ok (found_with p reading)) o
    short_read reading o e =
        let try = rw kept at e in
        let (at, is) = short_there s p (tried_nothing Long s p out between no_long).0 (tried_reads Short s p out reading o try).0 in
        read_there Short reading o try at is

    -- neither: the place is passed, and the output is as it was
    pub pass : (o : List ℕ) → attempt_of Short s p between ≡ outcome None o → Passed s (p + 1) × (o ≡ out)
    pass o e =
        let try = rw kept at e in
        let (no_short, same) = tried_nothing Short s p out o try in
        let here = neither_there s p (tried_nothing Long s p out between no_long).0 no_short in
        (λ j below. ⊎_elim (λ (f : j ≡ p). rw f here) (λ (b : j < p). passed j b) (eq-or-lt_of_le (omega arith)), same)

  -- ---- by what reading answers of a window

  pub long-found : (f : Found) (o : List ℕ) → f.place ≡ p → read_as Proper Long (window_at Long s p) out ≡ outcome (Ok f.reading) o
      → out_found s out (first_place s) ≡ outcome (Ok f) o
  long-found f o at e =
      long_read f.reading o (read_tried Long s p out f.reading o e) ∙ ap (λ (q : ℕ). outcome (Ok (found_with q f.reading)) o) (sym at)

  pub short-found : accepts_as Long s p ≡ false → (f : Found) (o : List ℕ) → f.place ≡ p
      → read_as Proper Short (window_at Short s p) out ≡ outcome (Ok f.reading) o → out_found s out (first_place s) ≡ outcome (Ok f) o
  short-found no_long f o at e =
      short_read out (tried_no Long s p out no_long) f.reading o (read_tried Short s p out f.reading o e)
      ∙ ap (λ (q : ℕ). outcome (Ok (found_with q f.reading)) o) (sym at)

  -- no window fits any more
  pub nowhere : length s < p + window_bits short → out_found s out (first_place s) ≡ outcome (Err NoPlace) out
  nowhere over = ap (out_found s out) (none_there s p passed over)
