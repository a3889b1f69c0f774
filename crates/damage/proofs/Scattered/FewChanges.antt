-- Few changed bits, anywhere in a window: where the ends of the damaged window agree and g divides its first n bits, these are too near to
-- the true ones to be others. Assumes nothing.
use Prim.Native.Nat.{ℕ, ◌≤◌}
use mathlib.Core.Bool.{Bool, true, false}
use mathlib.Core.Path.{◌≡◌, refl, sym, ap, ap₂, ◌∙◌}
use mathlib.Core.List.{List, [], ◌∷◌, ◌++◌}
use mathlib.Core.Logic.{inl, inr}
use native.Mathlib.Omega.{arith}
use lib.ListN.{length, take, drop, take-append-drop}
use lib.Seq.{take-take, length-take-le}
use Rattle.bits.specs.Bits.{all_bits}
use Rattle.bits.specs.Differences.{differences}
use Rattle.bits.proofs.AllBits.{all_bits-take}
use Rattle.bits.proofs.Differences.{differences-cut}
use Rattle.bits.proofs.Tests.{is_true, is_false}
use Rattle.formats.specs.declared.format.Format.{Format}
use Rattle.formats.specs.declared.format.Format.TheVariants.{Long}
use Rattle.formats.specs.Numbers.{Numbers, long, numbers_of, window_bits, g_of}
use Rattle.formats.proofs.Sizes.{Sizes, sizes_of}
use Rattle.refusals.specs.declared.Refusal.{Refusal}
use Rattle.refusals.specs.declared.Refusal.TheVariants.{EndsDiffer, NotDivisible, NoTurn}
use Rattle.cyclic.specs.Remainder.{remainder}
use Rattle.cyclic.specs.Check.{divisible}
use Rattle.cyclic.proofs.Laws.{Facts, zeros}
use Rattle.cyclic.proofs.Formats.{facts_of}
use Rattle.refusals.specs.Outcome.{outcome}
use Rattle.reader.specs.declared.Asked.{Asked}
use Rattle.reader.specs.Windows.{cut}
use Rattle.reader.specs.Reads.{ends_agree, turn_found}
use Rattle.reader.proofs.Ends.{ends_agree_lem, ends_differ, ends_repeat}
use Rattle.damage.specs.Answers.{OneOf, RefusedWith}
use Rattle.damage.specs.Scattered.{scatter_limit, Scattered, ScatteredRefused, RefusesScattered}
use Rattle.damage.specs.Readers.{read_with, the_tests}
use Rattle.damage.proofs.Sums.{differences_self}
use Rattle.damage.proofs.Scattered.Roots.{Roots, roots_of}
use Rattle.damage.proofs.Scattered.Distance.{near_equal}
use Rattle.damage.proofs.Windows.{divided_of, is_divided, Whole, cut_whole, rounds_whole, rounds_turn}
use Rattle.damage.proofs.Pairs.{ends_paired, paired_ends}
use Rattle.damage.proofs.Readers.{given_5, given_6, given_7, refused_with_lem}
use Rattle.std.specs.Prelude.{None, Err}

-- a window with at most d bits changed, that passes both tests, is the true one
passes_unchanged : (F : Numbers) → Sizes F → Facts F → (d : ℕ) → Roots F d → (w v : List ℕ) → Whole F w → (k : ℕ) → k ≤ d → Scattered k w v
    → drop F.n v ≡ take F.r v → remainder (g_of F) (take F.n v) ≡ zeros 75 → v ≡ w
passes_unchanged F S A d R w v whole k few changed ends divided =
    let n = F.n in
    let r = F.r in
    let near : differences (take n w) (take n v) ≤ d = omega (arith, differences-cut n w v, changed.changes) in
    let size-w : length (take n w) ≡ n = length-take-le n w (omega (arith, whole.size)) in
    let size-v : length (take n v) ≡ n = length-take-le n v (omega (arith, whole.size, changed.size)) in
    let front : take n w ≡ take n v =
    near_equal F A d R (take n w) (take n v) (all_bits-take n w whole.bits) (all_bits-take n v changed.bits) size-w size-v whole.divided divided near in
    let first : take r v ≡ take r w =
    sym (take-take r n v S.r_within) ∙ ap (take r) (sym front) ∙ take-take r n w S.r_within in
    sym (take-append-drop n v) ∙ ap₂ ◌++◌ (sym front) (ends ∙ first ∙ sym whole.ends) ∙ take-append-drop n w

-- ---- what a reader answers that tests the ends and divides as the window calls do

module _ (asked : Asked) (format : Format) (w v out : List ℕ) (whole : Whole (numbers_of format) w)
    (k : ℕ) (few : k ≤ scatter_limit format) (changed : Scattered k w v) where
  size : length v ≡ window_bits (numbers_of format)
  size = changed.size ∙ whole.size

  bits : all_bits v ≡ true
  bits = is_true (all_bits v) changed.bits

  -- 5 where the ends differ
  refused_5 : (numbers_of format).m ≤ length out → ends_agree (numbers_of format) v ≡ false → read_with the_tests asked v out ≡ outcome (Err EndsDiffer) out
  refused_5 room e = given_5 the_tests asked format v out size bits room e

  -- both tests hold only where nothing is changed
  same_of : ends_agree (numbers_of format) v ≡ true → divisible (numbers_of format) (take (numbers_of format).n v) ≡ true → v ≡ w
  same_of e d =
      let F = numbers_of format in
      passes_unchanged F (sizes_of format) (facts_of format) (scatter_limit format) (roots_of format) w v whole k few changed (ends_repeat F v e)
      (divided_of F (take F.n v) d)

  module _ (some : 1 ≤ k) where
    -- so where something is, and the ends agree, g does not divide
    divided_not : ends_agree (numbers_of format) v ≡ true → divisible (numbers_of format) (take (numbers_of format).n v) ≡ false
    divided_not e =
        let t = divisible (numbers_of format) (take (numbers_of format).n v) in
        is_false t (λ d. omega (arith, changed.changes, ap (differences w) (same_of e (is_true t d)), differences_self w))

    -- 6 where the ends agree
    refused_6 : (numbers_of format).m ≤ length out → ends_agree (numbers_of format) v ≡ true → read_with the_tests asked v out ≡ outcome (Err NotDivisible) out
    refused_6 room e = given_6 the_tests asked format v out size bits room e (divided_not e)

    by_ends : (numbers_of format).m ≤ length out → (t : Bool) → ends_agree (numbers_of format) v ≡ t
        → OneOf (EndsDiffer ∷ NotDivisible ∷ []) out (read_with the_tests asked v out)
    by_ends room true e = inr (inl (refused_6 room e))
    by_ends room false e = inl (refused_5 room e)

  -- which of the two
  told : (refusals : List Refusal) → RefusedWith refusals format out (read_with the_tests asked v out)
      → ScatteredRefused refusals format k w v out (read_with the_tests asked v out)
  told refusals refused =
      let F = numbers_of format in
      let S = sizes_of format in
      record {
        refused = refused;
        unpaired = λ room not. refused_5 room (ends_differ F v (λ e. not (ends_paired F S w v whole changed.size e)));
        paired = λ room some all. refused_6 some room (ends_agree_lem F v (paired_ends F S w v whole changed.size changed.bits all));
      }

  -- of a window of the telegram's own format
  scattered_refused : 1 ≤ k → ScatteredRefused (EndsDiffer ∷ NotDivisible ∷ []) format k w v out (read_with the_tests asked v out)
  scattered_refused some =
      told (EndsDiffer ∷ NotDivisible ∷ [])
      (refused_with_lem the_tests asked format v out size bits (EndsDiffer ∷ NotDivisible ∷ [])
      (λ room. by_ends some room (ends_agree (numbers_of format) v) refl))

  -- where the true window has no turn there is 7 beside
  unturned_refused : turn_found (numbers_of format) w ≡ None
      → ScatteredRefused (EndsDiffer ∷ NotDivisible ∷ NoTurn ∷ []) format k w v out (read_with the_tests asked v out)
  unturned_refused none =
      told (EndsDiffer ∷ NotDivisible ∷ NoTurn ∷ [])
      (refused_with_lem the_tests asked format v out size bits (EndsDiffer ∷ NotDivisible ∷ NoTurn ∷ [])
      (λ room. by_tests room (ends_agree (numbers_of format) v) refl (divisible (numbers_of format) (take (numbers_of format).n v)) refl))
    where
      by_tests : (numbers_of format).m ≤ length out → (t : Bool) → ends_agree (numbers_of format) v ≡ t
          → (u : Bool) → divisible (numbers_of format) (take (numbers_of format).n v) ≡ u
          → OneOf (EndsDiffer ∷ NotDivisible ∷ NoTurn ∷ []) out (read_with the_tests asked v out)
      by_tests room false e u d = inl (refused_5 room e)
      by_tests room true e false d = inr (inl (given_6 the_tests asked format v out size bits room e d))
      by_tests room true e true d =
          inr (inr (inl (given_7 the_tests asked format v out size bits room e d (ap (turn_found (numbers_of format)) (same_of e d) ∙ none))))

-- a window without damage that has no turn
unturned : (asked : Asked) (format : Format) (w out : List ℕ) → Whole (numbers_of format) w → turn_found (numbers_of format) w ≡ None
    → (numbers_of format).m ≤ length out → read_with the_tests asked w out ≡ outcome (Err NoTurn) out
unturned asked format w out whole none room =
    let F = numbers_of format in
    given_7 the_tests asked format w out whole.size (is_true (all_bits w) whole.bits) room (ends_agree_lem F w whole.ends)
    (is_divided F (take F.n w) whole.divided) none

-- ---- of every window

pub refuses_scattered : (asked : Asked) → RefusesScattered (read_with the_tests asked)
refuses_scattered asked =
    record {
      of_its_format = λ of format b h t below flipped k some few v changed out.
          let w = cut (window_bits (numbers_of format)) t flipped b in
          scattered_refused asked format w v out (cut_whole of format b h t below flipped) k few changed some;
      long_from_short = λ of b h t below flipped k few v changed out.
          let w = cut (window_bits long) t flipped b in
          unturned_refused asked Long w v out (rounds_whole of b h t below flipped) k few changed (rounds_turn of b h t below flipped);
      long_unchanged = λ of b h t below flipped out room.
          let w = cut (window_bits long) t flipped b in
          unturned asked Long w out (rounds_whole of b h t below flipped) (rounds_turn of b h t below flipped) room;
    }
