-- The last 110 bits of a telegram: the settings as the digits of one number, the first word, and how they change from one esb to the next.
-- Assumes nothing.
use Prim.Native.Nat.{ℕ, ◌+◌, ◌*◌, ◌/◌, ◌<◌}
use mathlib.Core.Path.{◌≡◌, refl, sym, ap, ap₂, ◌∙◌}
use mathlib.Core.List.{List, ◌++◌, append_assoc}
use native.Mathlib.Omega.{arith}
use lib.Bits.{bit_xor}
use lib.ListN.{length, take, length-append}
use Rattle.bits.specs.Bits.{number_of, bits_of}
use Rattle.bits.proofs.AllBits.{all_bits-append, all_bits-bits_of}
use Rattle.bits.proofs.Numbers.{length-bits_of, number_bits, bits_of-add, bits_of_join}
use Rattle.bits.proofs.Parts.{front_is}
use Rattle.formats.specs.Polynomial.{sum}
use Rattle.formats.specs.Numbers.{Numbers, fg_of}
use Rattle.cyclic.specs.Remainder.{remainder}
use Rattle.cyclic.specs.Check.{check_bits}
use Rattle.cyclic.proofs.Lists.{Bits, zeros, length-zeros, bits_zeros, sum-append, sum_twice}
use Rattle.cyclic.proofs.Registers.{zeros_right}
use Rattle.cyclic.proofs.Laws.{Facts, check_bits-sum, remainder-zeros}
use Rattle.cyclic.proofs.Machine.Sums.{bits_of-xor}
use Rattle.telegrams.specs.Telegram.{control, settings}
use Rattle.telegrams.proofs.Made.{length-settings, bits_settings}
use Rattle.quick_encoder.specs.Tail.{tail_of, change_of}

-- ---- the settings as digits

-- control bits and B
control_digits : (B : ℕ) → B < 4096 → bits_of 15 (4096 + B) ≡ control ++ bits_of 12 B
unfolding bits_of
control_digits B h = bits_of_join 3 12 1 B h

-- and esb
pub settings_digits : (B esb : ℕ) → B < 4096 → esb < 1024 → bits_of 25 ((4096 + B) * 1024 + esb) ≡ settings B esb
unfolding settings
settings_digits B esb h h' =
    bits_of_join 15 10 (4096 + B) esb h' ∙ ap (λ (l : List ℕ). l ++ bits_of 10 esb) (control_digits B h)
    ∙ append_assoc control (bits_of 12 B) (bits_of 10 esb)

-- the first word: the control bits, and the highest eight bits of B
pub first_word : (F : Numbers) (d : List ℕ) (B esb : ℕ) → B < 4096 → number_of (take 11 (tail_of F d B esb)) ≡ 256 + B / 16
unfolding tail_of settings
first_word F d B esb h =
    let word = bits_of 11 (256 + B / 16) in
    let rest = bits_of 4 (4096 + B) in
    let behind = bits_of 10 esb ++ check_bits F (d ++ settings B esb) in
    let high : (4096 + B) / 16 ≡ 256 + B / 16 = omega arith in
    let digits : control ++ bits_of 12 B ≡ word ++ rest =
    sym (control_digits B h) ∙ bits_of-add 11 4 (4096 + B) ∙ ap (λ (x : ℕ). bits_of 11 x ++ rest) high in
    let split : tail_of F d B esb ≡ word ++ (rest ++ behind) =
    simp append_assoc (ap (λ (l : List ℕ). l ++ behind) digits ∙ append_assoc word rest behind) in
    ap number_of (front_is word (rest ++ behind) (tail_of F d B esb) 11 (length-bits_of 11 (256 + B / 16)) split)
    ∙ number_bits 11 (256 + B / 16) (omega arith)

-- ---- from one esb to the next

-- where the digits in which two numbers differ are added to the one's, they are the other's
differing_added : (k m n : ℕ) → sum (bits_of k m) (bits_of k (bit_xor m n)) ≡ bits_of k n
differing_added k m n =
    ap (sum (bits_of k m)) (bits_of-xor k m n) ∙ sum_twice (bits_of k m) (bits_of k n) (all_bits-bits_of k n) (length-bits_of k m ∙ sym (length-bits_of k n))

-- the settings
settings-next : (B m n : ℕ) → settings B n ≡ sum (settings B m) (zeros 15 ++ bits_of 10 (bit_xor m n))
unfolding settings sum
settings-next B m n =
    let b = bits_of 12 B in
    let size = length-bits_of 12 B in
    ap (λ (l : List ℕ). control ++ l)
    (sym (sum-append b (zeros 12) (bits_of 10 m) (bits_of 10 (bit_xor m n)) size
    ∙ ap₂ ◌++◌ (zeros_right b 12 (all_bits-bits_of 12 B) size) (differing_added 10 m n)))

module _ (F : Numbers) (A : Facts F) (d : List ℕ) (bits : Bits d) (c : List ℕ) (c-bits : Bits c) where
  -- zeros in front of what is added do not count
  added-remainder : remainder (fg_of F) ((zeros (length d) ++ (zeros 15 ++ c)) ++ zeros 85) ≡ remainder (fg_of F) (c ++ zeros 85)
  added-remainder =
      let v = c ++ zeros 85 in
      let v-bits = all_bits-append c (zeros 85) c-bits (bits_zeros 85) in
      ap (remainder (fg_of F)) (append_assoc (zeros (length d)) (zeros 15 ++ c) (zeros 85))
      ∙ remainder-zeros A.fg_degree (length d) (zeros 15 ++ v) (all_bits-append (zeros 15) v (bits_zeros 15) v-bits)
      ∙ remainder-zeros A.fg_degree 15 v v-bits

  -- the check bits where c is added to the last bits of the settings s
  added_check : (s t : List ℕ) → Bits s → length s ≡ length (zeros 15 ++ c) → t ≡ sum s (zeros 15 ++ c)
      → check_bits F (d ++ t) ≡ sum (check_bits F (d ++ s)) (remainder (fg_of F) (c ++ zeros 85))
  added_check s t s-bits size e =
      let added = zeros 15 ++ c in
      let added-bits = all_bits-append (zeros 15) c (bits_zeros 15) c-bits in
      let same = length-zeros (length d) in
      let whole : d ++ t ≡ sum (d ++ s) (zeros (length d) ++ added) =
      ap₂ ◌++◌ (sym (zeros_right d (length d) bits refl)) e ∙ sym (sum-append d (zeros (length d)) s added (sym same)) in
      ap (check_bits F) whole
      ∙ check_bits-sum F A (d ++ s) (zeros (length d) ++ added) (all_bits-append d s bits s-bits)
      (all_bits-append (zeros (length d)) added (bits_zeros (length d)) added-bits)
      (length-append d s ∙ ap₂ ◌+◌ (sym same) size ∙ sym (length-append (zeros (length d)) added))
      ∙ ap (sum (check_bits F (d ++ s))) added-remainder

-- b109 to b0 for the next esb
pub tail-next : (F : Numbers) → Facts F → (d : List ℕ) (B esb : ℕ) → Bits d
    → tail_of F d B (esb + 1) ≡ sum (tail_of F d B esb) (change_of F (bit_xor esb (esb + 1)))
unfolding tail_of change_of
tail-next F A d B esb bits =
    let s = settings B esb in
    let x = bit_xor esb (esb + 1) in
    let c = bits_of 10 x in
    let next = settings-next B esb (esb + 1) in
    let size : length s ≡ length (zeros 15 ++ c) = length-settings B esb ∙ omega (arith, length-bits_of 10 x) in
    ap₂ ◌++◌ next (added_check F A d bits c (all_bits-bits_of 10 x) s (settings B (esb + 1)) (bits_settings B esb) size next)
    ∙ sym (sum-append s (zeros 15 ++ c) (check_bits F (d ++ s)) (remainder (fg_of F) (c ++ zeros 85)) size)
