-- A window with few bits lost at one place, or put in there, is refused with 5: if its ends agreed, bits before the slip would be the same as
-- bits after it that stand as many places further on in the ring, or back, and so many of them that they hold words with this period.
-- Assumes nothing.
use Prim.Native.Nat.{ℕ, ◌+◌, ◌-◌, ◌≤◌, ◌<◌}
use mathlib.Core.Bool.{Bool, false}
use mathlib.Core.Path.{◌≡◌, sym, ◌∙◌}
use mathlib.Core.List.{List, [], ◌∷◌}
use mathlib.Core.Logic.{inl, inr, ⊎_elim}
use native.Mathlib.Omega.{arith}
use lib.Dec.{T, lit≤}
use lib.ListN.{length, take, drop}
use Rattle.bits.specs.Bits.{all_bits}
use Rattle.bits.proofs.Tests.{is_true}
use Rattle.formats.specs.declared.format.Format.{Format}
use Rattle.formats.specs.declared.format.Format.TheVariants.{Long, Short}
use Rattle.formats.specs.Numbers.{Numbers, numbers_of, window_bits}
use Rattle.formats.proofs.Sizes.{Sizes, sizes_of}
use Rattle.refusals.specs.declared.Refusal.TheVariants.{EndsDiffer}
use Rattle.telegrams.proofs.WellFormed.{WellFormed, parts}
use Rattle.reader.specs.declared.Asked.{Asked}
use Rattle.reader.specs.Windows.{cut}
use Rattle.reader.specs.Reads.{ends_agree}
use Rattle.reader.proofs.AsAsked.{asked_tested}
use Rattle.reader.proofs.Ends.{ends_differ}
use Rattle.damage.specs.Readers.{read_with, the_tests}
use Rattle.damage.specs.Slips.{slip_limit, slip_reach, far_slip_limit, far_slip_reach, SlipRefused, RefusesSlips}
use Rattle.damage.proofs.Slips.Periods.{Rule, near_rule, far_rule, apart_differ}
use Rattle.damage.proofs.Slips.Slipped.{Slipped, SlippedFrom, slipped_from, once_round, resumed, length_slipped, bits_slipped, stretch-before, repeat_after, length_stream, bits_stream, stretch_stream}
use Rattle.damage.proofs.Readers.{given_5, refused_with_lem}

-- the slipped bits are fewer than those from an edge to them
small : (limit reach : ℕ) → Rule limit reach → (s : ℕ) → s ≤ limit → s ≤ reach
small limit reach rule s few = omega (arith, rule.short, rule.enough)

-- ---- the ends

module _ (F : Numbers) (S : Sizes F) (b : List ℕ) (form : WellFormed F b) (sent t : ℕ) (flipped : Bool) where
  -- the ends of a window with a slip do not agree
  pub slip_ends : (limit reach : ℕ) → Rule limit reach → reach ≤ F.r → (s : ℕ) → 1 ≤ s → s ≤ limit
      → (v : List ℕ) → Slipped reach (window_bits F) s (cut sent t flipped b) v → drop F.n v ≡ take F.r v → ⊥
  slip_ends limit reach rule repeats s some few v slip e =
      let x = cut sent t flipped b in
      let i : ℕ = reach - s in
      let m : ℕ = resumed reach (window_bits F) s x v slip in
      let j : ℕ = m - F.n in
      let after : ℕ = slip.next + (F.n + j - m) in
      let held : 0 < length b = omega (arith, form.size, S.n_is) in
      let size = length_stream b sent t flipped held in
      let close = small limit reach rule s few in
      let within = S.r_within in
      apart_differ F S b form limit reach rule s some few flipped (t + after) (t + j + F.n)
      (⊎_elim (λ h. inl (omega arith)) (λ h. inr (omega arith)) slip.apart)
      (sym (stretch_stream b sent t flipped held i after (omega arith))
      ∙ repeat_after reach (window_bits F) s x v slip F.n F.r i j e (omega arith) (omega arith) (omega arith)
      ∙ stretch-before reach (window_bits F) s x v slip i j (omega arith)
      ∙ stretch_stream b sent t flipped held i j (omega arith) ∙ sym (once_round b flipped F.n form.size i (t + j)))

-- ---- what a reader answers that tests the ends as the window calls do

-- to a slip after which the ends differ
pub slip_refused : (asked : Asked) (format : Format) (b : List ℕ) → T (all_bits b) → 0 < length b → (reach s t : ℕ) (flipped : Bool) (v : List ℕ)
    → SlippedFrom reach (window_bits (numbers_of format)) s t flipped b v → ends_agree (numbers_of format) v ≡ false
    → (out : List ℕ) → SlipRefused format out (read_with the_tests asked v out)
slip_refused asked format b bits held reach s t flipped v from differ out =
    let L = window_bits (numbers_of format) in
    let x = cut from.sent t flipped b in
    let size = length_slipped reach L s x v from.slip in
    let are_bits = is_true (all_bits v) (bits_slipped reach L s x v from.slip (bits_stream b from.sent t flipped held bits)) in
    refused_with_lem the_tests asked format v out size are_bits (EndsDiffer ∷ [])
    (λ room. inl (given_5 the_tests asked format v out size are_bits room differ))

refuses : (asked : Asked) (limit reach : ℕ) → Rule limit reach → ((format : Format) → reach ≤ (numbers_of format).r)
    → RefusesSlips limit reach (read_with the_tests asked)
refuses asked limit reach rule repeats =
    record {
      refuses = λ of format b h t below flipped s some few v made.
          let F = numbers_of format in
          let S = sizes_of format in
          let form = parts F b ((asked_tested of format b).0 h).0 in
          let held : 0 < length b = omega (arith, form.size, S.n_is) in
          let from = slipped_from reach (window_bits F) s t flipped b v held (small limit reach rule s few) made in
          slip_refused asked format b form.bits held reach s t flipped v from
          (ends_differ F v (slip_ends F S b form from.sent t flipped limit reach rule (repeats format) s some few v from.slip));
    }

-- a window repeats as many bits as a slip must be from its edges
pub far_repeated : (format : Format) → far_slip_reach ≤ (numbers_of format).r
far_repeated Long = lit≤ tt
far_repeated Short = lit≤ tt

near_repeated : (format : Format) → slip_reach ≤ (numbers_of format).r
near_repeated format = omega (arith, far_repeated format)

pub refuses_slips : (asked : Asked) → RefusesSlips slip_limit slip_reach (read_with the_tests asked)
refuses_slips asked = refuses asked slip_limit slip_reach near_rule near_repeated

pub refuses_far_slips : (asked : Asked) → RefusesSlips far_slip_limit far_slip_reach (read_with the_tests asked)
refuses_far_slips asked = refuses asked far_slip_limit far_slip_reach far_rule far_repeated
