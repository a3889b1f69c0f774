-- The places at which read accepts, by the tests and by what reading answers there. Assumes nothing.
use mathlib.Core.Path.{◌≡◌, refl, ap, subst, subst⁻¹}
use mathlib.Core.Bool.{Bool, true, false}
use mathlib.Core.List.{List}
use Prim.Native.Nat.{ℕ, ◌≤◌}
use native.Mathlib.Omega.{arith}
use lib.Dec.{T}
use lib.ListN.{length, replicate, length-replicate}
use Rattle.bits.proofs.Tests.{holds, fails, is_false}
use Rattle.formats.specs.declared.format.Format.{Format}
use Rattle.formats.specs.declared.format.Format.TheVariants.{Long, Short}
use Rattle.formats.specs.Numbers.{numbers_of, window_bits}
use Rattle.formats.proofs.Fits.{one_format, windows_apart}
use Rattle.refusals.specs.Outcome.{Outcome}
use Rattle.reader.specs.declared.Asked.TheVariants.{Proper}
use Rattle.reader.specs.declared.Reading.{Reading}
use Rattle.reader.specs.Reads.{reading_in, reads_as}
use Rattle.reader.proofs.Laws.{reads_as_lem, read_accepted}
use Rattle.captures.specs.Captures.{window_at, accepts_as, accepts_at, format_at}
use Rattle.captures.specs.FirstPlace.{ReadsAt, NotAt}
use Rattle.captures.proofs.Places.{window-length, accepts_fits, long_there, short_there, neither_there}
use Rattle.std.specs.Prelude.{Result}
use Rattle.refusals.specs.declared.Refusal.{Refusal}

module _ (format : Format) (s : List ℕ) (p : ℕ) where
  pub accepts_reads : T (accepts_as format s p) → ReadsAt format s p (reading_in format (window_at format s p))
  unfolding accepts_as
  accepts_reads h =
      record {
        fits = accepts_fits format s p h;
        reads = λ out room. ap (λ (x : Outcome (Result Reading Refusal)). x.answer) (reads_as_lem Proper format (window_at format s p) out h room);
      }

  -- what reads there is accepted, and this is its reading
  pub reads_accepts : (reading : Reading) → ReadsAt format s p reading → T (accepts_as format s p) × (reading ≡ reading_in format (window_at format s p))
  unfolding accepts_as
  reads_accepts reading h =
      let w = window_at format s p in
      let zeros : List ℕ = replicate (numbers_of format).m 0 in
      let room : (numbers_of format).m ≤ length zeros = omega (arith, length-replicate {A = ℕ} (numbers_of format).m 0) in
      let known = read_accepted Proper w zeros reading (h.reads zeros room) in
      let same : reading.format ≡ format =
      one_format window_bits windows_apart (length w) reading.format format known.size (window-length format s p h.fits) in
      subst (λ (f : Format). T (reads_as Proper f w) × (reading ≡ reading_in f w)) same (known.accepted, known.reads)

  pub not_accepted : accepts_as format s p ≡ false → NotAt format s p
  not_accepted e reading h = fails (accepts_as format s p) e (reads_accepts reading h).0

  pub accepted_not : NotAt format s p → accepts_as format s p ≡ false
  accepted_not h = is_false (accepts_as format s p) (λ t. h (reading_in format (window_at format s p)) (accepts_reads t))

module _ (s : List ℕ) (p : ℕ) where
  -- read accepts there as the format's
  pub format-accepts : accepts_at s p ≡ true → T (accepts_as (format_at s p) s p)
  unfolding accepts_at format_at
  format-accepts e = go (accepts_as Long s p) refl (accepts_as Short s p) refl
    where
      go : (l : Bool) → accepts_as Long s p ≡ l → (t : Bool) → accepts_as Short s p ≡ t → T (accepts_as (format_at s p) s p)
      go true f t g = subst⁻¹ (λ (x : Format). T (accepts_as x s p)) (long_there s p f).1 (holds (accepts_as Long s p) f)
      go false f true g = subst⁻¹ (λ (x : Format). T (accepts_as x s p)) (short_there s p f g).1 (holds (accepts_as Short s p) g)
      go false f false g = absurd (fails (accepts_at s p) (neither_there s p f g) (holds (accepts_at s p) e))

  -- neither format is accepted where none is
  pub none-accepts : accepts_at s p ≡ false → (format : Format) → accepts_as format s p ≡ false
  unfolding accepts_at
  none-accepts e format = is_false (accepts_as format s p) (λ t. go format t (accepts_as Long s p) refl (accepts_as Short s p) refl)
    where
      go : (x : Format) → T (accepts_as x s p) → (l : Bool) → accepts_as Long s p ≡ l → (t : Bool) → accepts_as Short s p ≡ t → ⊥
      go x h true f t g = fails (accepts_at s p) e (holds (accepts_at s p) (long_there s p f).0)
      go x h false f true g = fails (accepts_at s p) e (holds (accepts_at s p) (short_there s p f g).0)
      go Long h false f false g = fails (accepts_as Long s p) f h
      go Short h false f false g = fails (accepts_as Short s p) g h
