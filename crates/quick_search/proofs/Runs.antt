-- Of a run of places whose windows' ends agree only the first need be read: each window is the one before it, turned by one, and the verdict
-- goes by the ring. Assumes nothing.
use mathlib.Core.Path.{◌≡◌, sym, ap, ◌∙◌}
use mathlib.Core.List.{List}
use mathlib.Core.Logic.{⊎_elim}
use Prim.Native.Nat.{ℕ, zero, suc, ◌+◌, ◌-◌, ◌%◌, ◌≤◌, ◌<◌}
use native.Mathlib.Nat.{add-zero, eq-or-lt_of_le, mod-eq_of_lt, mod_self}
use native.Mathlib.Omega.{arith}
use lib.Dec.{T}
use lib.ListN.{length, get_or, take}
use lib.Seq.{length-take-le, get_or-take, ext_get_or}
use Rattle.bits.specs.Bits.{around}
use Rattle.bits.proofs.Ring.{get_or-around, length-around, around-turned}
use Rattle.bits.proofs.Tests.{is_true}
use Rattle.formats.specs.declared.format.Format.{Format}
use Rattle.formats.specs.Numbers.{numbers_of, window_bits}
use Rattle.formats.proofs.Sizes.{sizes_of}
use Rattle.cyclic.specs.Check.{turned}
use Rattle.reader.specs.declared.Asked.{Asked}
use Rattle.reader.specs.Reads.{ends_agree, reads_as}
use Rattle.reader.specs.ByRing.{TurnedWindow}
use Rattle.reader.proofs.ByRing.{by_ring}
use Rattle.captures.specs.Captures.{window_at}
use Rattle.captures.proofs.Places.{window-length}
use Rattle.quick_search.specs.Runs.{Run}
use Rattle.quick_search.proofs.Agreeing.{some_pairs, window_bit, ends_pairs}

-- bits each of which is the next of u, and the last the first, are u turned by one
turned-one : (u v : List ℕ) → 0 < length u → length v ≡ length u → ((i : ℕ) → i + 1 < length u → get_or v i 0 ≡ get_or u (1 + i) 0)
    → ((i : ℕ) → i + 1 ≡ length u → get_or v i 0 ≡ get_or u 0 0) → v ≡ turned 1 u
unfolding turned
turned-one u v some size next last =
    let n = length u in
    ext_get_or 0 v (around n 1 u) (size ∙ sym (length-around n 1 u)) (λ i below.
    let inside : i < n = omega (arith, size) in
    ⊎_elim
    (λ (e : i + 1 ≡ n).
    let whole : 1 + i ≡ n = omega arith in
    last i e ∙ sym (ap (λ (x : ℕ). get_or u x 0) (ap (λ (x : ℕ). x % n) whole ∙ mod_self n)))
    (λ (h : i + 1 < n).
    let more : 1 + i < n = omega arith in
    next i h ∙ sym (ap (λ (x : ℕ). get_or u x 0) (mod-eq_of_lt more)))
    (eq-or-lt_of_le (omega arith))
    ∙ sym (get_or-around n 1 u i inside))
    ∙ around-turned 1 u (omega arith)

module _ (format : Format) (s : List ℕ) where
  -- the window at the next place is turned by one
  next-turned : (p : ℕ) → p + 1 + window_bits (numbers_of format) ≤ length s → T (ends_agree (numbers_of format) (window_at format s p))
      → T (ends_agree (numbers_of format) (window_at format s (p + 1))) → TurnedWindow format (window_at format s p) (window_at format s (p + 1)) 1
  next-turned p fits ends next-ends =
      let F = numbers_of format in
      let n = F.n in
      let w = window_at format s p in
      let v = window_at format s (p + 1) in
      let some : 0 < n = omega (arith, (sizes_of format).n_is) in
      let here : p + window_bits F ≤ length s = omega arith in
      let w-size = window-length format s p here in
      let v-size = window-length format s (p + 1) fits in
      let w-first : length (take n w) ≡ n = length-take-le n w (omega (arith, w-size)) in
      let v-first : length (take n v) ≡ n = length-take-le n v (omega (arith, v-size)) in
      let pair = ends_pairs format s p here (is_true (ends_agree F w) ends) p (omega arith) (omega (arith, some_pairs format)) in
      record {
        size = w-size;
        turned_size = v-size;
        ends = ends;
        turned_ends = next-ends;
        within = omega arith;
        turn =
            turned-one (take n w) (take n v) (omega (arith, w-first)) (v-first ∙ sym w-first)
            (λ i h.
            let inside : 1 + i < n = omega (arith, w-first) in
            let place : p + 1 + i ≡ p + (1 + i) = omega arith in
            get_or-take n v i 0 (omega arith) ∙ window_bit format s (p + 1) fits i (omega arith) ∙ ap (λ (x : ℕ). get_or s x 0) place
            ∙ sym (get_or-take n w (1 + i) 0 inside ∙ window_bit format s p here (1 + i) (omega arith)))
            (λ i e.
            let whole : i + 1 ≡ n = e ∙ w-first in
            let place : p + 1 + i ≡ p + n = omega arith in
            let start : p + 0 ≡ p = omega arith in
            get_or-take n v i 0 (omega arith) ∙ window_bit format s (p + 1) fits i (omega arith) ∙ ap (λ (x : ℕ). get_or s x 0) place ∙ sym pair
            ∙ sym (get_or-take n w 0 0 some ∙ window_bit format s p here 0 (omega arith) ∙ ap (λ (x : ℕ). get_or s x 0) start));
      }

  -- k places further on
  further : (asked : Asked) (p k : ℕ) → Run format s p (p + k) → reads_as asked format (window_at format s p) ≡ reads_as asked format (window_at format s (p + k))
  further asked p zero run = ap (λ (x : ℕ). reads_as asked format (window_at format s x)) (sym (add-zero p))
  further asked p (suc k) run =
      let place : p + k + 1 ≡ p + suc k = omega arith in
      let fits = run.fits in
      further asked p k (record { fits = omega arith; agree = λ j from upto. run.agree j from (omega arith) })
      ∙ by_ring asked format (window_at format s (p + k)) (window_at format s (p + k + 1)) 1
      (next-turned (p + k) (omega arith) (run.agree (p + k) (omega arith) (omega arith)) (run.agree (p + k + 1) (omega arith) (omega arith)))
      ∙ ap (λ (x : ℕ). reads_as asked format (window_at format s x)) place

-- of a run the window at the last place is accepted exactly when that at the first is, by read and by read_well_formed
pub run_by_first : (asked : Asked) (format : Format) (s : List ℕ) (p q : ℕ) → p ≤ q → Run format s p q
    → reads_as asked format (window_at format s p) ≡ reads_as asked format (window_at format s q)
run_by_first asked format s p q from run =
    let place : p + (q - p) ≡ q = omega arith in
    further format s asked p (q - p) (rw place run) ∙ ap (λ (x : ℕ). reads_as asked format (window_at format s x)) place
