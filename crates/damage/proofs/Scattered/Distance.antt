-- Two lists of n bits that g divides, and that differ in no more places than g has roots in a row, are equal: their sum has as many ones as
-- they differ in places, and by the bound of Bose, Ray-Chaudhuri and Hocquenghem none. Assumes nothing.
use Prim.Native.Nat.{ℕ, zero, suc, ◌-◌, ◌≤◌, ◌<◌}
use mathlib.Core.Path.{◌≡◌, sym, ap, ◌∙◌}
use mathlib.Core.List.{List}
use native.Mathlib.Omega.{arith}
use lib.ListN.{length, get_or}
use Rattle.bits.specs.Differences.{differences}
use Rattle.bits.proofs.Equal.{same_equal}
use Rattle.bits.proofs.Tests.{clash}
use Rattle.words.proofs.Lists.{below_at}
use Rattle.formats.specs.Polynomial.{sum}
use Rattle.formats.specs.Numbers.{Numbers, g_of, fg_of}
use Rattle.cyclic.specs.Remainder.{remainder}
use Rattle.cyclic.proofs.Lists.{Bits, zeros, bits_sum, length-sum}
use Rattle.cyclic.proofs.Space.{Space, times, pow, times-nil}
use Rattle.cyclic.proofs.Registers.{Reg, same_bits, By, remainder_is, one, none}
use Rattle.cyclic.proofs.Quotients.{quotient, whole}
use Rattle.cyclic.proofs.Facts.{Facts}
use Rattle.damage.proofs.Sums.{sum_nothing, ones, ones_none, ones-sum}
use Rattle.damage.proofs.Scattered.Powers.{Power, spread, bits_spread, power_times}
use Rattle.damage.proofs.Scattered.BoseRayChaudhuriHocquenghem.{bch_bound}
use Rattle.damage.proofs.Scattered.Orders.{reaches, fixed_reached}
use Rattle.damage.proofs.Scattered.Roots.{is_root, Roots}
use Rattle.damage.proofs.Divided.{shifts_round, divided_sum}

module _ (F : Numbers) (A : Facts F) (d : ℕ) (R : Roots F d) where
  -- the registers by h
  abbrev mod_h : Space
  mod_h = By 9 R.h R.degree

  -- n shifts do nothing to them
  h_round : (s : Reg 10) → pow mod_h F.n s ≡ s
  h_round =
      shifts_round F A 9 R.h R.degree
      (same_bits (sym (remainder_is 9 R.h R.degree (fg_of F) A.fg_degree.bits) ∙ R.divides))

  -- fewer fix only 0
  h_free : (k : ℕ) → 0 < k → k < F.n → (s : Reg 10) → pow mod_h k s ≡ s → s ≡ none 10
  h_free zero some below s e = absurd (omega arith)
  h_free (suc i) some below s e =
      fixed_reached 9 R.h R.degree F.n h_round (suc i) R.inverses
      (below_at (λ i. reaches F.n (suc i) R.inverses) (F.n - 1) R.reached i (omega arith)) s e

  -- g is nothing at x^(i+1)
  g_nil : (i : ℕ) → i < d → times (Power mod_h (suc i)) (g_of F) (one 9) ≡ none 10
  unfolding is_root
  g_nil i below =
      power_times mod_h i (g_of F) (one 9)
      ∙ same_bits
      (sym (remainder_is 9 R.h R.degree (spread i (g_of F)) (bits_spread i (g_of F) A.g_degree.bits))
      ∙ same_equal (remainder R.h (spread i (g_of F))) (zeros 10) (below_at (is_root R.h (g_of F)) d R.roots i below))

  -- so is what g divides
  divided_at : (v : List ℕ) → Bits v → remainder (g_of F) v ≡ zeros 75 → (i : ℕ) → i < d → times (Power mod_h (suc i)) v (one 9) ≡ none 10
  divided_at v h z i below =
      let M = Power mod_h (suc i) in
      let q = quotient 74 (g_of F) A.g_degree v in
      whole 74 (g_of F) A.g_degree M (one 9) v h z ∙ ap (times M q) (g_nil i below) ∙ times-nil M q

  -- 1 is not 0
  one_some : one 9 ≡ none 10 → ⊥
  one_some e = clash (sym (ap (λ (r : Reg 10). get_or r.of 9 0) e))

  -- at most n bits that g divides, d of them ones at the most, are zeros
  pub few_ones : (v : List ℕ) → Bits v → length v ≤ F.n → remainder (g_of F) v ≡ zeros 75 → ones v ≤ d → ones v ≡ 0
  few_ones v h short z few = bch_bound mod_h F.n h_round h_free v h short (one 9) one_some d few (divided_at v h z)

  -- two lists of n bits
  pub near_equal : (u v : List ℕ) → Bits u → Bits v → length u ≡ F.n → length v ≡ F.n
      → remainder (g_of F) u ≡ zeros 75 → remainder (g_of F) v ≡ zeros 75 → differences u v ≤ d → u ≡ v
  near_equal u v hu hv lu lv du dv near =
      let same = lu ∙ sym lv in
      let size = length-sum u v same in
      let few : ones (sum u v) ≤ d = omega (arith, ones-sum u v hu hv) in
      sum_nothing u v hu hv same
      (ones_none (sum u v) (bits_sum u v) (few_ones (sum u v) (bits_sum u v) (omega arith) (divided_sum F A u v hu hv same du dv) few) ∙ ap zeros size)
