-- One burst of at most 75 bits in a window (document 02, No. 8): where the ends of the damaged window agree, no bit of them is changed,
-- since the two places of a pair are more than 75 apart; then the first n bits differ within 75 places from bits that g divides.
-- Assumes nothing.
use Prim.Native.Nat.{ℕ, ◌+◌, ◌-◌, ◌≤◌, ◌<◌}
use mathlib.Core.Bool.{Bool, true, false}
use mathlib.Core.Path.{◌≡◌, refl, sym, ap, ap₂, subst, ◌∙◌}
use mathlib.Core.List.{List, ◌++◌}
use mathlib.Core.Logic.{◌⊎◌, inl, inr}
use native.Mathlib.Omega.{arith}
use lib.ListN.{length, get_or, take, drop, length-take, length-drop, take-append-drop}
use lib.Seq.{get_or-take}
use Rattle.bits.specs.Bits.{all_bits}
use Rattle.bits.proofs.AllBits.{all_bits-take, all_bits-drop}
use Rattle.bits.proofs.Tests.{is_true}
use Rattle.formats.specs.declared.format.Format.{Format}
use Rattle.formats.specs.Numbers.{Numbers, numbers_of, window_bits, g_of}
use Rattle.formats.proofs.Sizes.{Sizes, sizes_of}
use Rattle.refusals.specs.declared.Refusal.TheVariants.{EndsDiffer, NotDivisible}
use Rattle.refusals.specs.Outcome.{outcome}
use Rattle.cyclic.specs.Remainder.{remainder}
use Rattle.cyclic.proofs.Laws.{Facts, Bits, zeros}
use Rattle.cyclic.proofs.Formats.{facts_of}
use Rattle.reader.specs.declared.Asked.{Asked}
use Rattle.reader.specs.Windows.{cut}
use Rattle.reader.specs.Reads.{ends_agree}
use Rattle.reader.proofs.Ends.{ends_agree_lem, ends_differ, ends_repeat}
use Rattle.damage.specs.Bursts.{Changed, burst_limit, Burst, AtEnds, BurstRefused, RefusesBursts}
use Rattle.damage.proofs.Divided.{divided_equal}
use Rattle.damage.specs.Readers.{read_with, the_tests}
use Rattle.damage.proofs.Windows.{not_divided, Whole, cut_whole}
use Rattle.damage.proofs.Pairs.{ends_paired}
use Rattle.damage.proofs.Readers.{given_5, given_6}
use Rattle.damage.proofs.Places.{same-front, same_back, same-around}
use Rattle.std.specs.Prelude.{Err}

module _ (F : Numbers) (S : Sizes F) (A : Facts F) (w v : List ℕ) (whole : Whole F w) (burst : Burst burst_limit w v) where
  -- ---- the ends

  -- a burst does not change both places of a pair
  not_both : (i : ℕ) → Changed w v i → Changed w v (F.n + i) → ⊥
  not_both i here there = omega (arith, (burst.within i here).0, (burst.within (F.n + i) there).1, S.n_is)

  -- so where the ends agree it changes neither
  pub ends_unchanged : drop F.n v ≡ take F.r v → (j : ℕ) → Changed w v j → AtEnds F j → ⊥
  ends_unchanged e j c (inl below) = not_both j c ((ends_paired F S w v whole burst.size e j below).0 c)
  ends_unchanged e j c (inr past) =
      let i : ℕ = j - F.n in
      let place : j ≡ F.n + i = omega arith in
      let there = subst (Changed w v) place c in
      not_both i ((ends_paired F S w v whole burst.size e i (omega (arith, c.0, whole.size))).1 there) there

  -- ---- the first n bits

  abbrev front : List ℕ → List ℕ
  front x = take F.n x

  -- what is changed of them is changed of the window
  front_changed : (j : ℕ) → Changed (front w) (front v) j → Changed w v j
  front_changed j c =
      let inside : j < F.n = omega (arith, c.0, length-take F.n w) in
      let held : j < length w = omega (arith, c.0, length-take F.n w) in
      (held, λ e. c.1 (get_or-take F.n v j 0 inside ∙ e ∙ sym (get_or-take F.n w j 0 inside)))

  -- if g divides them none is changed
  front_same : remainder (g_of F) (front v) ≡ zeros 75 → front v ≡ front w
  front_same d =
      let i = burst.from in
      let size : length (front v) ≡ length (front w) = simp length-take (omega (arith, burst.size)) in
      let p = take i (front w) in
      let q = drop (i + burst_limit) (front w) in
      let x = take burst_limit (drop i (front v)) in
      let y = take burst_limit (drop i (front w)) in
      let damaged : front v ≡ p ++ (x ++ q) = same-around (front w) (front v) size i burst_limit (λ j c. burst.within j (front_changed j c)) in
      let true-one : front w ≡ p ++ (y ++ q) = same-around (front w) (front w) refl i burst_limit (λ j c. absurd (c.1 refl)) in
      let v-bits = all_bits-take F.n v burst.bits in
      let w-bits = all_bits-take F.n w whole.bits in
      let as_long : length x ≡ length y = simp (length-take, length-drop) (omega (arith, size)) in
      let few : length x ≤ 75 = simp length-take (omega arith) in
      let middle : x ≡ y =
      divided_equal F A p x y q (subst Bits damaged v-bits) (subst Bits true-one w-bits)
      (all_bits-take burst_limit (drop i (front v)) (all_bits-drop i (front v) v-bits)) (all_bits-take burst_limit (drop i (front w)) (all_bits-drop i (front w) w-bits))
      as_long few (ap (remainder (g_of F)) (sym damaged) ∙ d) (ap (remainder (g_of F)) (sym true-one) ∙ whole.divided) in
      damaged ∙ ap (λ (l : List ℕ). p ++ (l ++ q)) middle ∙ sym true-one

  module _ (none : (j : ℕ) → Changed w v j → AtEnds F j → ⊥) where
    -- where none of their bits is changed the last r are the same
    last_same : drop F.n v ≡ drop F.n w
    last_same = same_back w v burst.size F.n (λ j past c. none j c (inr past))

    -- the ends agree
    pub ends_same : drop F.n v ≡ take F.r v
    ends_same =
        last_same ∙ whole.ends
        ∙ sym (same-front w v burst.size F.r (λ j below c. none j c (inl below)))

    -- and g does not divide the first n
    pub front_not_divided : remainder (g_of F) (front v) ≡ zeros 75 → ⊥
    front_not_divided d =
        let equal : v ≡ w = sym (take-append-drop F.n v) ∙ ap₂ ◌++◌ (front_same d) last_same ∙ take-append-drop F.n w in
        burst.changed.1 (ap (λ (l : List ℕ). get_or l burst.place 0) equal)

-- ---- what a reader answers that tests the ends and divides as the window calls do

module _ (asked : Asked) (format : Format) (w v out : List ℕ) (whole : Whole (numbers_of format) w) (burst : Burst burst_limit w v)
    (room : (numbers_of format).m ≤ length out) where
  abbrev NoneAtEnds : Type 0
  NoneAtEnds = (j : ℕ) → Changed w v j → AtEnds (numbers_of format) j → ⊥

  size : length v ≡ window_bits (numbers_of format)
  size = burst.size ∙ whole.size

  bits : all_bits v ≡ true
  bits = is_true (all_bits v) burst.bits

  -- 5 where the ends differ
  refused_5 : ends_agree (numbers_of format) v ≡ false → read_with the_tests asked v out ≡ outcome (Err EndsDiffer) out
  refused_5 differ = given_5 the_tests asked format v out size bits room differ

  -- 6 where no bit of them is changed
  refused_6 : NoneAtEnds → read_with the_tests asked v out ≡ outcome (Err NotDivisible) out
  refused_6 none =
      let F = numbers_of format in
      let S = sizes_of format in
      let A = facts_of format in
      given_6 the_tests asked format v out size bits room (ends_agree_lem F v (ends_same F S A w v whole burst none))
      (not_divided F (take F.n v) (front_not_divided F S A w v whole burst none))

  burst_refused : BurstRefused format w v out (read_with the_tests asked v out)
  burst_refused =
      record {
        refused = by_ends (ends_agree (numbers_of format) v) refl;
        with_ends = λ j c at. refused_5 (ends_differ (numbers_of format) v (λ e. unchanged_ends e j c at));
        without_ends = refused_6;
      }
    where
      unchanged_ends : drop (numbers_of format).n v ≡ take (numbers_of format).r v → NoneAtEnds
      unchanged_ends = ends_unchanged (numbers_of format) (sizes_of format) (facts_of format) w v whole burst

      by_ends : (t : Bool) → ends_agree (numbers_of format) v ≡ t
          → (read_with the_tests asked v out ≡ outcome (Err EndsDiffer) out) ⊎ (read_with the_tests asked v out ≡ outcome (Err NotDivisible) out)
      by_ends true e = inr (refused_6 (unchanged_ends (ends_repeat (numbers_of format) v e)))
      by_ends false e = inl (refused_5 e)

-- ---- of every window cut from a well-formed telegram, or a proper one

pub refuses_bursts : (asked : Asked) → RefusesBursts (read_with the_tests asked)
refuses_bursts asked =
    record {
      refuses = λ of format b h t below flipped v burst out room.
          burst_refused asked format (cut (window_bits (numbers_of format)) t flipped b) v out (cut_whole of format b h t below flipped) burst room;
    }
