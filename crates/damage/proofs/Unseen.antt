-- What both tests miss: n bits that g divides, the first r of them 0, added to a window before its repeat. The ends stay as they were, and g
-- divides the first n bits as it did. Assumes nothing.
use Prim.Native.Nat.{ℕ, ◌+◌}
use mathlib.Core.Path.{◌≡◌, sym, ap, ap₂, ◌∙◌}
use mathlib.Core.List.{List, ◌++◌}
use native.Mathlib.Omega.{arith}
use lib.ListN.{length, take, drop, length-append, length-drop}
use lib.Seq.{take_at, drop_at, take-append-le, length-take-le}
use Rattle.bits.proofs.AllBits.{all_bits-take, all_bits-drop}
use Rattle.formats.specs.declared.format.Format.{Format}
use Rattle.formats.specs.Polynomial.{sum}
use Rattle.formats.specs.Numbers.{Numbers, numbers_of, g_of}
use Rattle.formats.proofs.Sizes.{sizes_of}
use Rattle.refusals.specs.declared.Refusal.TheVariants.{EndsDiffer, NotDivisible}
use Rattle.refusals.specs.Outcome.{outcome}
use Rattle.cyclic.specs.Remainder.{remainder}
use Rattle.cyclic.proofs.Lists.{Bits, zeros, length-zeros, length-sum}
use Rattle.cyclic.proofs.Registers.{zeros_right}
use Rattle.cyclic.proofs.Formats.{facts_of}
use Rattle.reader.specs.declared.Asked.{Asked}
use Rattle.reader.proofs.Ends.{ends_agree_lem}
use Rattle.damage.specs.Readers.{read_with, the_tests}
use Rattle.damage.proofs.Sums.{sum-take, sum_drop}
use Rattle.damage.proofs.Divided.{divided_sum}
use Rattle.damage.proofs.Windows.{is_divided, Whole}
use Rattle.damage.proofs.Readers.{neither}
use Rattle.std.specs.Prelude.{Err}

-- n bits that g divides, the first r of them 0
pub record Unseen (F : Numbers) (e : List ℕ) : Type 0 where
  pub bits : Bits e
  pub size : length e ≡ F.n
  pub divided : remainder (g_of F) e ≡ zeros 75
  pub first : take F.r e ≡ zeros F.r

-- they, before as many zeros as the window repeats bits, added to it
abbrev pub to_window : Numbers → List ℕ → List ℕ
to_window F e = e ++ zeros F.r

abbrev pub added : Numbers → List ℕ → List ℕ → List ℕ
added F e w = sum w (to_window F e)

module _ (format : Format) (e : List ℕ) (u : Unseen (numbers_of format) e) (w : List ℕ) (whole : Whole (numbers_of format) w) where
  abbrev F : Numbers
  F = numbers_of format

  pub fits : length w ≡ length (to_window F e)
  fits = whole.size ∙ sym (length-append e (zeros F.r) ∙ ap₂ ◌+◌ u.size (length-zeros F.r))

  pub added_size : length (added F e w) ≡ length w
  added_size = length-sum w (to_window F e) fits

  -- the first r bits are as they were
  pub first-kept : take F.r (added F e w) ≡ take F.r w
  first-kept =
      let within = (sizes_of format).r_within in
      let size : length (take F.r w) ≡ F.r = length-take-le F.r w (omega (arith, whole.size)) in
      sum-take F.r w (to_window F e) ∙ ap (sum (take F.r w)) (take-append-le F.r e (zeros F.r) (omega (arith, u.size)) ∙ u.first)
      ∙ zeros_right (take F.r w) F.r (all_bits-take F.r w whole.bits) size

  -- and so are the last r
  pub last_kept : drop F.n (added F e w) ≡ drop F.n w
  last_kept =
      let size : length (drop F.n w) ≡ F.r = length-drop F.n w ∙ omega (arith, whole.size) in
      sum_drop F.n w (to_window F e) fits ∙ ap (sum (drop F.n w)) (drop_at e (zeros F.r) F.n u.size)
      ∙ zeros_right (drop F.n w) F.r (all_bits-drop F.n w whole.bits) size

  -- g divides the first n
  added_divided : remainder (g_of F) (take F.n (added F e w)) ≡ zeros 75
  added_divided =
      let front = take F.n w in
      let size : length front ≡ F.n = length-take-le F.n w (omega (arith, whole.size)) in
      ap (remainder (g_of F)) (sum-take F.n w (to_window F e) ∙ ap (sum front) (take_at e (zeros F.r) F.n u.size))
      ∙ divided_sum F (facts_of format) front e (all_bits-take F.n w whole.bits) u.bits (size ∙ sym u.size) whole.divided u.divided

  -- so a reader with the tests of the window calls refuses neither with 5 nor with 6
  pub unseen : (asked : Asked) (out : List ℕ)
      → (read_with the_tests asked (added F e w) out ≡ outcome (Err EndsDiffer) out → ⊥)
      × (read_with the_tests asked (added F e w) out ≡ outcome (Err NotDivisible) out → ⊥)
  unseen asked out =
      let v = added F e w in
      neither the_tests asked format v out (added_size ∙ whole.size) (ends_agree_lem F v (last_kept ∙ whole.ends ∙ sym first-kept))
      (is_divided F (take F.n v) added_divided)
