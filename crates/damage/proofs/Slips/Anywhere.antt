-- A slip of 1 to 10 bits, wherever it is: far from both edges it is refused; near one of them, if the ends agree all the same, the window is
-- one of the same telegram without damage, since the end that the slip did not touch tells what the other holds. Assumes nothing.
use Prim.Native.Nat.{ℕ, ◌+◌, ◌-◌, ◌%◌, ◌≤◌, ◌<◌}
use mathlib.Core.Bool.{Bool, true, false}
use mathlib.Core.Path.{◌≡◌, refl, sym, ap, ap₂, ◌∙◌}
use mathlib.Core.List.{List, ◌++◌}
use mathlib.Core.Logic.{◌⊎◌, inl, inr}
use native.Mathlib.Nat.{mod-lt}
use native.Mathlib.Decide.{dec_lt}
use native.Mathlib.Omega.{arith}
use lib.ListN.{length, take, drop, length-drop, take-append-drop}
use lib.Seq.{take_all}
use Rattle.bits.specs.Bits.{around}
use Rattle.bits.proofs.Ring.{around-append}
use Rattle.formats.specs.declared.format.Format.{Format}
use Rattle.formats.specs.Numbers.{Numbers, numbers_of, window_bits}
use Rattle.formats.proofs.Sizes.{Sizes, sizes_of}
use Rattle.telegrams.proofs.WellFormed.{WellFormed, parts}
use Rattle.conditions.proofs.Round.{around-mod}
use Rattle.reader.specs.declared.Asked.{Asked}
use Rattle.reader.specs.Windows.{oriented, cut}
use Rattle.reader.specs.Reads.{ends_agree}
use Rattle.reader.proofs.AsAsked.{asked_tested}
use Rattle.reader.proofs.Ends.{ends_repeat}
use Rattle.reader.proofs.Windows.{length-oriented, cut-oriented}
use Rattle.damage.specs.Readers.{read_with, the_tests}
use Rattle.damage.specs.Slips.{far_slip_limit, far_slip_reach, Slip, SlipRefused, Undamaged, SettlesSlips}
use Rattle.damage.proofs.Slips.Stretches.{stretch}
use Rattle.damage.proofs.Slips.Periods.{far_rule}
use Rattle.damage.proofs.Slips.Slipped.{Slipped, SlippedFrom, slipped_from, once_round, resumed, length_slipped, stretch-before, stretch_after, repeat_after, length_stream, stretch_stream}
use Rattle.damage.proofs.Slips.FarEnough.{far_repeated, slip_ends, slip_refused}

-- a list as two stretches
two_stretches : (i j : ℕ) (l : List ℕ) → length l ≡ i + j → l ≡ stretch i 0 l ++ stretch j i l
two_stretches i j l size =
    let rest : length (drop i l) ≤ j = omega (arith, length-drop i l) in
    sym (take-append-drop i l) ∙ ap (λ (x : List ℕ). take i l ++ x) (sym (take_all j (drop i l) rest))

-- a window with a slip at any place, whose ends agree
module _ (format : Format) (b : List ℕ) (form : WellFormed (numbers_of format) b) (sent t : ℕ) (flipped : Bool) (s : ℕ) (v : List ℕ)
    (slip : Slipped s (window_bits (numbers_of format)) s (cut sent t flipped b) v)
    (e : drop (numbers_of format).n v ≡ take (numbers_of format).r v) where
  abbrev F : Numbers
  F = numbers_of format

  abbrev S : Sizes F
  S = sizes_of format

  abbrev L : ℕ
  L = window_bits F

  abbrev x : List ℕ
  x = cut sent t flipped b

  abbrev ring : List ℕ
  ring = oriented flipped b

  held : 0 < length b
  held = omega (arith, form.size, S.n_is)

  -- bits of the ring are a window without damage
  window_at_lem : (p : ℕ) → v ≡ around L p ring → Undamaged format b flipped v
  window_at_lem p is =
      record {
        turn = p % F.n;
        below = mod-lt p (omega (arith, S.n_is));
        window =
            is ∙ sym (around-mod L p ring) ∙ ap (λ (n : ℕ). around L (p % n) ring) (length-oriented flipped b ∙ form.size)
            ∙ sym (cut-oriented L (p % F.n) flipped b held);
      }

  -- the slip lies within the first r bits: they are as they would be if the window began s bits later, or sooner
  front-turned : resumed s L s x v slip ≤ F.r → v ≡ around L (t + (slip.next + (F.n + 0 - resumed s L s x v slip))) ring
  front-turned near =
      let m : ℕ = resumed s L s x v slip in
      let p : ℕ = slip.next + (F.n + 0 - m) in
      let within = S.r_within in
      let many = S.n_is in
      let size = length_stream b sent t flipped held in
      let whole = slip.whole in
      let parts : L ≡ m + (L - m) = omega arith in
      let place : slip.first + (length slip.others + 0) ≡ m = omega arith in
      let start : slip.next + 0 ≡ slip.next = omega arith in
      let back : t + slip.next + F.n ≡ t + p + m = omega arith in
      let front : stretch m 0 v ≡ around m (t + p) ring =
      sym (repeat_after s L s x v slip F.n F.r m 0 e (omega arith) (omega arith) (omega arith))
      ∙ stretch_stream b sent t flipped held m p (omega arith) in
      let rest : stretch (L - m) m v ≡ around (L - m) (t + p + m) ring =
      ap (λ (k : ℕ). stretch (L - m) k v) (sym place) ∙ stretch_after s L s x v slip (L - m) 0
      ∙ ap (λ (k : ℕ). stretch (L - m) k x) start ∙ stretch_stream b sent t flipped held (L - m) slip.next (omega arith)
      ∙ sym (once_round b flipped F.n form.size (L - m) (t + slip.next)) ∙ ap (λ (k : ℕ). around (L - m) k ring) back in
      two_stretches m (L - m) v (length_slipped s L s x v slip ∙ parts) ∙ ap₂ ◌++◌ front rest ∙ sym (around-append m (L - m) (t + p) ring)
      ∙ ap (λ (k : ℕ). around k (t + p) ring) (sym parts)

  -- it lies behind the first n bits: the last r are as they would be without it
  back-kept : F.n ≤ slip.first → v ≡ around L t ring
  back-kept past =
      let n = F.n in
      let r = F.r in
      let within = S.r_within in
      let size = length_stream b sent t flipped held in
      let inside = slip.inside in
      let start : t + 0 ≡ t = omega arith in
      let all = length_slipped s L s x v slip in
      let first : (i : ℕ) → i ≤ n → stretch i 0 v ≡ around i t ring =
      λ i few. stretch-before s L s x v slip i 0 (omega arith) ∙ stretch_stream b sent t flipped held i 0 (omega arith)
      ∙ ap (λ (k : ℕ). around i k ring) start in
      let last : stretch r n v ≡ around r (t + n) ring =
      take_all r (drop n v) (omega (arith, length-drop n v)) ∙ e ∙ first r within ∙ sym (once_round b flipped n form.size r t) in
      two_stretches n r v all ∙ ap₂ ◌++◌ (first n (omega arith)) last ∙ sym (around-append n r t ring)

  -- far from both edges the ends do not agree
  far_never : 1 ≤ s → s ≤ far_slip_limit → far_slip_reach ≤ slip.first + s → far_slip_reach + (slip.first + length slip.others) ≤ L + s → ⊥
  far_never some few before after =
      let far : Slipped far_slip_reach L s x v =
      record {
        first = slip.first;
        others = slip.others;
        next = slip.next;
        window = slip.window;
        bits = slip.bits;
        few = slip.few;
        inside = slip.inside;
        whole = slip.whole;
        before = before;
        after = after;
        apart = slip.apart;
      } in
      slip_ends F S b form sent t flipped far_slip_limit far_slip_reach far_rule (far_repeated format) s some few v far e

  -- so there is no damage
  pub undamaged : 1 ≤ s → s ≤ far_slip_limit → Undamaged format b flipped v
  undamaged some few = go (dec_lt (slip.first + s) far_slip_reach) (dec_lt (L + s) (far_slip_reach + (slip.first + length slip.others)))
    where
      go : Dec (slip.first + s < far_slip_reach) → Dec (L + s < far_slip_reach + (slip.first + length slip.others)) → Undamaged format b flipped v
      go (yes near) d =
          window_at_lem (t + (slip.next + (F.n + 0 - resumed s L s x v slip))) (front-turned (omega (arith, slip.few, far_repeated format)))
      go (no far) (yes near) = window_at_lem t (back-kept (omega (arith, slip.few, far_repeated format)))
      go (no far) (no away) = absurd (far_never some few (omega arith) (omega arith))

-- ---- what a reader answers that tests the ends as the window calls do

-- to a slip of either kind, by the ends
settled : (asked : Asked) (format : Format) (b : List ℕ) → WellFormed (numbers_of format) b → (t : ℕ) (flipped : Bool)
    → (s : ℕ) → 1 ≤ s → s ≤ far_slip_limit → (v : List ℕ) → Slip s (window_bits (numbers_of format)) s t flipped b v → (out : List ℕ)
    → (u : Bool) → ends_agree (numbers_of format) v ≡ u → SlipRefused format out (read_with the_tests asked v out) ⊎ Undamaged format b flipped v
settled asked format b form t flipped s some few v made out u e =
    let L = window_bits (numbers_of format) in
    let held : 0 < length b = omega (arith, form.size, (sizes_of format).n_is) in
    go (slipped_from s L s t flipped b v held (omega arith) made) held u e
  where
    go : SlippedFrom s (window_bits (numbers_of format)) s t flipped b v → 0 < length b → (u : Bool) → ends_agree (numbers_of format) v ≡ u
        → SlipRefused format out (read_with the_tests asked v out) ⊎ Undamaged format b flipped v
    go from held false e = inl (slip_refused asked format b form.bits held s s t flipped v from e out)
    go from held true e = inr (undamaged format b form from.sent t flipped s v from.slip (ends_repeat (numbers_of format) v e) some few)

pub settles_slips : (asked : Asked) → SettlesSlips far_slip_limit (read_with the_tests asked)
settles_slips asked =
    record {
      settles = λ of format b h t below flipped s some few v made out.
          settled asked format b (parts (numbers_of format) b ((asked_tested of format b).0 h).0) t flipped s some few v made out
          (ends_agree (numbers_of format) v) refl;
    }
