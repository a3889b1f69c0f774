-- Two lists of bits that g divides, and that differ only within 75 neighbouring places, are equal: the sum of the two is x^i times a
-- polynomial of degree at most 74; i shifts of a register by g, of which n do nothing, make only 0 to 0; and what has at most 75
-- coefficients is its own remainder. Assumes nothing.
use Prim.Native.Nat.{ℕ, suc, ◌+◌, ◌-◌, ◌≤◌}
use mathlib.Core.Path.{◌≡◌, sym, ap, ap₂, ◌∙◌}
use mathlib.Core.List.{List, ◌++◌}
use native.Mathlib.Omega.{arith}
use lib.ListN.{length, drop, length-append, replicate-append-replicate}
use lib.Seq.{drop_at}
use Rattle.bits.proofs.AllBits.{all_bits-append}
use Rattle.formats.specs.Polynomial.{sum}
use Rattle.formats.specs.Numbers.{Numbers, g_of, fg_of}
use Rattle.cyclic.specs.Remainder.{remainder}
use Rattle.cyclic.proofs.Lists.{Bits, zeros, length-zeros, bits_zeros, bits_sum, length-sum}
use Rattle.cyclic.proofs.Space.{pow, pow-times, times, times-sum, run-append, zeros-front, zeros-back}
use Rattle.cyclic.proofs.Registers.{Reg, same_bits, Monic, By, rem, remainder_is, one, none}
use Rattle.cyclic.proofs.Quotients.{rem-short}
use Rattle.cyclic.proofs.Facts.{Facts}
use Rattle.cyclic.proofs.Cyclic.{g_divides, round_trip, mod_g, rem_g}
use Rattle.damage.proofs.Sums.{sum_nothing, sum_middle}
use Rattle.damage.proofs.Shifts.{shifts_nil}

module _ (F : Numbers) (A : Facts F) where
  -- n shifts do nothing to a register by a divisor d of f*g
  pub shifts_round : (k : ℕ) (d : List ℕ) (m : Monic (suc k) d) → rem k d m (fg_of F) ≡ none (suc k)
      → (s : Reg (suc k)) → pow (By k d m) F.n s ≡ s
  shifts_round k d m z s =
      let M = By k d m in
      let itself = rem-short k d m s in
      ap (pow M F.n) (sym itself) ∙ pow-times M F.n s.of (one k) ∙ ap (times M s.of) (round_trip F A k d m z) ∙ itself

  -- zeros behind x shift its register
  pub shifted : (i : ℕ) (x : List ℕ) → rem_g F A (x ++ zeros i) ≡ pow (mod_g F A) i (rem_g F A x)
  shifted i x = let M = mod_g F A in run-append M (one 74) (none 75) x (zeros i) ∙ zeros-back M (one 74) (rem_g F A x) i

  -- so what g divides with them, it divides without
  behind_nil : (i : ℕ) (x : List ℕ) → rem_g F A (x ++ zeros i) ≡ none 75 → rem_g F A x ≡ none 75
  behind_nil i x e =
      shifts_nil (mod_g F A) F.n (shifts_round 74 (g_of F) A.g_degree (g_divides F A)) (omega (arith, A.many)) i (rem_g F A x) (sym (shifted i x) ∙ e)

  -- at most 75 coefficients that leave 0 by g are 0
  short-nil : (x : List ℕ) → Bits x → length x ≤ 75 → rem_g F A x ≡ none 75 → x ≡ zeros (length x)
  short-nil x h few e =
      let k : ℕ = 75 - length x in
      let padded : Reg 75 =
      record {
        of = zeros k ++ x;
        bits = all_bits-append (zeros k) x (bits_zeros k) h;
        size = length-append (zeros k) x ∙ omega (arith, length-zeros k);
      } in
      let all : 75 ≡ k + length x = omega arith in
      let is-nil : padded ≡ none 75 =
      sym (rem-short 74 (g_of F) A.g_degree padded) ∙ zeros-front (mod_g F A) k x (one 74) ∙ e in
      sym (drop_at (zeros k) x k (length-zeros k))
      ∙ ap (drop k) (ap (λ (r : Reg 75). r.of) is-nil ∙ ap zeros all ∙ sym (replicate-append-replicate k (length x) 0))
      ∙ drop_at (zeros k) (zeros (length x)) k (length-zeros k)

  -- at most 75 coefficients between zeros, where g divides the whole, are 0
  middle_nil : (a i : ℕ) (x : List ℕ) → Bits x → length x ≤ 75 → rem_g F A (zeros a ++ (x ++ zeros i)) ≡ none 75 → x ≡ zeros (length x)
  middle_nil a i x h few e = short-nil x h few (behind_nil i x (sym (zeros-front (mod_g F A) a (x ++ zeros i) (one 74)) ∙ e))

  -- what g divides, as a register
  pub divided_nil : (u : List ℕ) → Bits u → remainder (g_of F) u ≡ zeros 75 → rem_g F A u ≡ none 75
  divided_nil u h e = same_bits (sym (remainder_is 74 (g_of F) A.g_degree u h) ∙ e)

  -- what g divides with zeros behind it, it divides
  pub divided_front : (i : ℕ) (x : List ℕ) → Bits x → remainder (g_of F) (x ++ zeros i) ≡ zeros 75 → remainder (g_of F) x ≡ zeros 75
  divided_front i x h e =
      remainder_is 74 (g_of F) A.g_degree x h
      ∙ ap (λ (r : Reg 75). r.of) (behind_nil i x (divided_nil (x ++ zeros i) (all_bits-append x (zeros i) h (bits_zeros i)) e))

  -- the sum of two lists that g divides
  pub sum-nil : (u v : List ℕ) → Bits u → Bits v → length u ≡ length v → remainder (g_of F) u ≡ zeros 75 → remainder (g_of F) v ≡ zeros 75
      → rem_g F A (sum u v) ≡ none 75
  sum-nil u v hu hv l d e =
      let M = mod_g F A in
      times-sum M u v (one 74) l ∙ ap₂ M.add (divided_nil u hu d) (divided_nil v hv e) ∙ M.unit (none 75)

  pub divided_sum : (u v : List ℕ) → Bits u → Bits v → length u ≡ length v → remainder (g_of F) u ≡ zeros 75 → remainder (g_of F) v ≡ zeros 75
      → remainder (g_of F) (sum u v) ≡ zeros 75
  divided_sum u v hu hv l d e =
      remainder_is 74 (g_of F) A.g_degree (sum u v) (bits_sum u v) ∙ ap (λ (r : Reg 75). r.of) (sum-nil u v hu hv l d e)

  -- two lists that g divides
  pub divided_equal : (p x y q : List ℕ) → Bits (p ++ (x ++ q)) → Bits (p ++ (y ++ q)) → Bits x → Bits y → length x ≡ length y → length x ≤ 75
      → remainder (g_of F) (p ++ (x ++ q)) ≡ zeros 75 → remainder (g_of F) (p ++ (y ++ q)) ≡ zeros 75 → x ≡ y
  divided_equal p x y q hu hv hx hy l few d e =
      let u = p ++ (x ++ q) in
      let v = p ++ (y ++ q) in
      let same : length u ≡ length v = simp length-append (omega arith) in
      let size = length-sum x y l in
      let less : length (sum x y) ≤ 75 = omega arith in
      let whole = sum-nil u v hu hv same d e in
      sum_nothing x y hx hy l
      (middle_nil (length p) (length q) (sum x y) (bits_sum x y) less (ap (rem_g F A) (sym (sum_middle p x y q l)) ∙ whole) ∙ ap zeros size)
