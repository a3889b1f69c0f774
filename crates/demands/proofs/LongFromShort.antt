-- A window of 1100 bits of a short telegram going round: three rounds and 77 bits more, so that the ends agree, the long g divides the
-- first 1023 bits, and the long f leaves the remainder 0, which is that of no turn. Assumes nothing.
use mathlib.Core.Path.{◌≡◌, sym, ap, ap₂, ◌∙◌}
use mathlib.Core.Bool.{true}
use mathlib.Core.List.{List, ◌++◌}
use Prim.Native.Nat.{ℕ, ◌+◌, ◌*◌, ◌<◌}
use native.Mathlib.Omega.{arith}
use lib.Dec.{T}
use lib.ListN.{length, take}
use Rattle.bits.specs.Bits.{all_bits, around}
use Rattle.bits.proofs.Equal.{equal_same}
use Rattle.bits.proofs.Ring.{length-around, all_bits-around, around-append, take-around, drop-around, around_period, around_rounds, around-turned}
use Rattle.formats.specs.declared.format.Format.{Format}
use Rattle.formats.specs.declared.format.Format.TheVariants.{Long}
use Rattle.formats.specs.Numbers.{long, short, numbers_of, f_of, g_of, fg_of}
use Rattle.cyclic.specs.Remainder.{remainder}
use Rattle.cyclic.specs.Check.{g_padded, turned, divisible}
use Rattle.cyclic.proofs.Formats.{facts_of}
use Rattle.cyclic.proofs.Laws.{short_facts, zeros, turned_reads, turn-never, thrice}
use Rattle.reader.specs.Reads.{ends_agree, turn_found}
use Rattle.reader.proofs.Ends.{ends_agree_lem}
use Rattle.reader.proofs.Turns.{turn-none}
use Rattle.std.specs.Prelude.{None}

-- a window whose first n bits have the remainder 0 by f has no turn
pub zero_no_turn : (format : Format) (w : List ℕ) → remainder (f_of (numbers_of format)) (take (numbers_of format).n w) ≡ zeros 10
    → turn_found (numbers_of format) w ≡ None
zero_no_turn format w e =
    let F = numbers_of format in
    turn-none F w (λ t below f. turn-never F (facts_of format) t below (f ∙ e))

-- a ring x of 341 bits with the remainder g by the short f*g, from the turn t on
module _ (x : List ℕ) (t : ℕ) (bits : T (all_bits x)) (size : length x ≡ 341) (below : t < 341) (code : remainder (fg_of short) x ≡ g_padded short) where
  -- the first 1023 bits are three times one round
  three_rounds : take 1023 (around 1100 t x) ≡ around 341 t x ++ (around 341 t x ++ around 341 t x)
  three_rounds =
      let v = around 341 t x in
      let again : (p : ℕ) → around 341 (p + 341) x ≡ around 341 p x = λ p. ap (λ (k : ℕ). around 341 (p + k) x) (sym size) ∙ around_period 341 p x in
      take-around 1023 77 t x ∙ around-append 341 682 t x
      ∙ ap (λ (l : List ℕ). v ++ l) (around-append 341 341 (t + 341) x ∙ ap₂ ◌++◌ (again t) (again (t + 341) ∙ again t))

  -- the short g divides one round
  one_round : remainder (g_of short) (around 341 t x) ≡ zeros 75
  unfolding turned
  one_round =
      let whole : around 341 t x ≡ turned t x = ap (λ (k : ℕ). around k t x) (sym size) ∙ around-turned t x (omega arith) in
      ap (remainder (g_of short)) whole ∙ (turned_reads short short_facts t x bits below size code).0

  -- the ends agree
  pub rounds_agree : ends_agree long (around 1100 t x) ≡ true
  rounds_agree =
      let thrice-round : t + 1023 ≡ t + 3 * length x = omega arith in
      ends_agree_lem long (around 1100 t x)
      (drop-around 1023 77 t x ∙ ap (λ (p : ℕ). around 77 p x) thrice-round ∙ around_rounds 77 t 3 x ∙ sym (take-around 77 1023 t x))

  -- the long g divides the first 1023 bits
  pub rounds_divisible : divisible long (take 1023 (around 1100 t x)) ≡ true
  unfolding divisible
  rounds_divisible =
      let v = around 341 t x in
      equal_same (remainder (g_of long) (take 1023 (around 1100 t x))) (zeros 75)
      (ap (remainder (g_of long)) three_rounds ∙ (thrice v (all_bits-around 341 t x bits) (length-around 341 t x) one_round).0)

  -- and their remainder by the long f is that of no turn
  pub rounds_no_turn : turn_found long (around 1100 t x) ≡ None
  rounds_no_turn =
      let v = around 341 t x in
      zero_no_turn Long (around 1100 t x)
      (ap (remainder (f_of long)) three_rounds ∙ (thrice v (all_bits-around 341 t x bits) (length-around 341 t x) one_round).1)
