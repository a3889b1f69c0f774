-- The places that a step passes: at none of them is the format's window accepted. Assumes nothing.
use mathlib.Core.Path.{◌≡◌, refl, sym, subst⁻¹, ◌∙◌}
use mathlib.Core.Bool.{Bool, true, false}
use mathlib.Core.List.{List}
use Prim.Native.Nat.{ℕ, ◌+◌, ◌-◌, ◌≤◌, ◌<◌}
use native.Mathlib.Omega.{arith}
use borrow.Author.Tests.{ltb-true, ltb-false, leb-true, leb-false}
use lib.Dec.{leb, ltb}
use lib.ListN.{length}
use Rattle.bits.proofs.Tests.{holds, fails, is_false}
use Rattle.formats.specs.declared.format.Format.{Format}
use Rattle.formats.specs.declared.format.Format.TheVariants.{Long, Short}
use Rattle.formats.specs.Numbers.{numbers_of, window_bits}
use Rattle.formats.proofs.Sizes.{window_between}
use Rattle.reader.specs.declared.Asked.TheVariants.{Proper}
use Rattle.reader.specs.Reads.{ends_agree}
use Rattle.reader.proofs.Laws.{reads_ends}
use Rattle.captures.specs.Captures.{window_at, accepts_as}
use Rattle.captures.proofs.Places.{window-length, accepts_fits, far_refused, neither_there, Passed}
use Rattle.quick_search.specs.Pairs.{PairAgrees, PairsAgree, AgreedFrom}
use Rattle.quick_search.specs.Stepped.{NoneFrom, GoesOn}
use Rattle.quick_search.proofs.Agreeing.{agree_on, some_pairs, pairs_ends, ends_pairs}
use Rattle.quick_search.proofs.Runs.{run_by_first}

module _ (format : Format) (s : List ℕ) where
  -- a pair that differs bars every place whose window has it at its ends
  pub differing_bars : (p j : ℕ) → p ≤ j → j < p + (numbers_of format).r → (PairAgrees (numbers_of format).n s j → ⊥) → accepts_as format s p ≡ false
  unfolding accepts_as
  differing_bars p j from below differs =
      is_false (accepts_as format s p)
      (λ t. differs (ends_pairs format s p (accepts_fits format s p t) (reads_ends Proper format (window_at format s p) t) j from below))

  -- places of a run whose first is refused
  run_refused : (p q : ℕ) → p ≤ q → q + window_bits (numbers_of format) ≤ length s → PairsAgree (numbers_of format).n s p (q + (numbers_of format).r)
      → accepts_as format s p ≡ false → accepts_as format s q ≡ false
  unfolding accepts_as
  run_refused p q from fits agree refused =
      sym
      (run_by_first Proper format s p q from
      (record {
        fits = fits;
        agree =
            λ j p≤j j≤q.
            holds (ends_agree (numbers_of format) (window_at format s j))
            (pairs_ends format s j (omega arith) (λ i j≤i below. agree i (omega arith) (omega arith)));
      }))
      ∙ refused

  -- no window fits any more
  none_beyond : (p q : ℕ) → length s < p + window_bits (numbers_of format) → NoneFrom format s p q
  none_beyond p q over j from below = far_refused format s j (omega arith)

  pub none_empty : (p q : ℕ) → length (window_at format s p) ≡ 0 → NoneFrom format s p q
  none_empty p q empty = go (leb (p + window_bits (numbers_of format)) (length s)) refl
    where
      go : (b : Bool) → leb (p + window_bits (numbers_of format)) (length s) ≡ b → NoneFrom format s p q
      go true e =
          absurd (omega (arith, empty, window-length format s p (leb-true (p + window_bits (numbers_of format)) (length s) e), window_between format))
      go false e = none_beyond p q (leb-false (p + window_bits (numbers_of format)) (length s) e)

  -- up to the last pair that differs
  pub none_to_agreed : (p a : ℕ) → AgreedFrom (numbers_of format).n s p (p + (numbers_of format).r) a → NoneFrom format s p a
  none_to_agreed p a found j from below =
      differing_bars j (a - 1) (omega arith) (omega (arith, found.within)) (found.differs (omega arith))

  -- the window at a place up to which a refused run goes on, and whose pairs agree
  pub run_goes_on : (p : ℕ) → GoesOn format s p true → p + window_bits (numbers_of format) ≤ length s
      → PairsAgree (numbers_of format).n s p (p + (numbers_of format).r) → accepts_as format s p ≡ false
  run_goes_on p (q, (before, agree, refused)) fits here = run_refused q p before fits (agree_on (numbers_of format).n s q p (p + (numbers_of format).r) agree here) refused

  -- after a refused window whose pairs agree: a place before the end of these is barred by a pair, or it is of the same run
  pub none_after : (p : ℕ) → PairsAgree (numbers_of format).n s p (p + (numbers_of format).r) → accepts_as format s p ≡ false
      → NoneFrom format s p (p + (numbers_of format).r)
  unfolding accepts_as
  none_after p agree refused j from below =
      is_false (accepts_as format s j)
      (λ t.
      let fits = accepts_fits format s j t in
      let ends = ends_pairs format s j fits (reads_ends Proper format (window_at format s j) t) in
      let all = agree_on (numbers_of format).n s p j (j + (numbers_of format).r) (λ i p≤i i<j. agree i p≤i (omega arith)) ends in
      fails (accepts_as format s j) (run_refused p j from fits all refused) t)

  -- so the walk goes on at that end, with the refused run
  pub goes_past : (p r : ℕ) → r ≡ (numbers_of format).r → PairsAgree (numbers_of format).n s p (p + (numbers_of format).r)
      → accepts_as format s p ≡ false → (p < p + r) × NoneFrom format s p (p + r) × GoesOn format s (p + r) true
  goes_past p r e agree refused =
      subst⁻¹ (λ (r : ℕ). (p < p + r) × NoneFrom format s p (p + r) × GoesOn format s (p + r) true) e
      (omega (arith, some_pairs format), none_after p agree refused, (p, (omega arith, agree, refused)))

-- ---- where a walk stands

-- a format's walk stands at place p: no place before it is accepted, and whether a refused run goes on up to it
pub record Stands (format : Format) (s : List ℕ) (p : ℕ) (refused : Bool) : Type 0 where
  pub none : NoneFrom format s 0 p
  pub run : GoesOn format s p refused

-- at the start
pub stands_first : (format : Format) (s : List ℕ) → Stands format s 0 false
stands_first format s = record { none = λ j from below. absurd (omega arith); run = tt }

-- after a step
pub stands_next : (format : Format) (s : List ℕ) (p q : ℕ) (before refused : Bool) → Stands format s p before → NoneFrom format s p q
    → GoesOn format s q refused → Stands format s q refused
stands_next format s p q before refused here none run = record { none = λ j from below. go j below (ltb j p) refl; run = run }
  where
    go : (j : ℕ) → j < q → (b : Bool) → ltb j p ≡ b → accepts_as format s j ≡ false
    go j below true h = here.none j (omega arith) (ltb-true j p h)
    go j below false h = none j (ltb-false j p h) below

-- passed by both walks
pub passed_both : (s : List ℕ) (p : ℕ) → NoneFrom Long s 0 p → NoneFrom Short s 0 p → Passed s p
passed_both s p long short j below = neither_there s j (long j (omega arith) below) (short j (omega arith) below)
