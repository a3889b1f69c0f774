-- The laws of the cyclic code that callers cite, over lists of bits, for a format F and the facts computed for it
-- (`long_facts` and `short_facts` of Facts). `zeros k` is k zeros and `Bits v` says that v is made of bits.
-- Assumes nothing.
use Rattle.std.proofs.Common.{◌≡◌, ℕ, ◌+◌, ◌-◌, ◌<◌, ◌≤◌, ◌↔◌, List, [], ◌∷◌, ◌++◌, length, sym, ap, ◌∙◌, ap₂, arith, length-append}
use Rattle.bits.specs.Bits.{flip}
use Rattle.formats.specs.Polynomial.{sum, polynomial}
use Rattle.formats.specs.Numbers.{Numbers, long, short, f_of, g_of, fg_of}
use Rattle.cyclic.specs.Remainder.{remainder}
use Rattle.cyclic.specs.Check.{g_padded, check_bits, turned, turn_remainder}
use Rattle.bits.proofs.AllBits.{all_bits-append}
use Rattle.cyclic.proofs.Lists.{bits_zeros, bits_sum, length-sum, sum_assoc, sum_comm, sum_self, sum-append}
use Rattle.cyclic.proofs.Space.{pow, times-append, pow-nil, pow-add, other, twice, run-append, zeros-back}
use Rattle.cyclic.proofs.Registers.{Reg, same_bits, remainder_is, one, none}
use Rattle.cyclic.proofs.Quotients.{rem-short}
use Rattle.cyclic.proofs.Cyclic.{f_divides, g_divides, fg_divides, rem-turned, flipped, mod_f, mod_g, mod_fg, rem_f, rem_g, rem_fg, padded_is, turn_is, g_round, by_both, g_of_fg, f_of_fg}
pub use Rattle.cyclic.proofs.Cyclic.{bits_padded, length_padded}
pub use Rattle.cyclic.proofs.Lists.{Bits, zeros, bits_turned, length-turned, turned_back_lem}
pub use Rattle.cyclic.proofs.Facts.{Facts, long_facts, short_facts, long_g_divides, long_f_divides}
pub use Rattle.cyclic.proofs.Remainders.{remainder_bits, remainder-length, length-remainder, remainder-next, remainder-sum, remainder-zeros}
pub use Rattle.cyclic.proofs.Turns.{turn_unique, turn-never, turn-next, turn_of-turn, turn_of-at, turn_of_nothing}
pub use Rattle.cyclic.proofs.Rounds.{thrice}

module _ (F : Numbers) (A : Facts F) where
  -- what leaves 0 by g and the remainder of turn 0 by f has right check bits
  pub two_factors : (b : List ℕ) → Bits b → remainder (g_of F) b ≡ zeros 75 → remainder (f_of F) b ≡ turn_remainder F 0
      → remainder (fg_of F) b ≡ g_padded F
  unfolding pow
  two_factors b h zg ef =
      remainder_is 84 (fg_of F) A.fg_degree b h
      ∙ ap (λ (r : Reg 85). r.of)
      (by_both F A b h (same_bits (sym (remainder_is 74 (g_of F) A.g_degree b h) ∙ zg))
      (same_bits (sym (remainder_is 9 (f_of F) A.f_degree b h) ∙ ef ∙ turn_is F A 0)))
      ∙ sym (padded_is F A)

  -- and the other way round
  pub factors_two : (b : List ℕ) → Bits b → remainder (fg_of F) b ≡ g_padded F
      → (remainder (g_of F) b ≡ zeros 75) × (remainder (f_of F) b ≡ turn_remainder F 0)
  unfolding pow
  factors_two b h e = (
    remainder_is 74 (g_of F) A.g_degree b h ∙ ap (λ (r : Reg 75). r.of) (g_of_fg F A b h e),
    remainder_is 9 (f_of F) A.f_degree b h ∙ ap (λ (r : Reg 10). r.of) (f_of_fg F A b h e) ∙ sym (turn_is F A 0),
  )

  -- a telegram with right check bits, read from any turn on
  pub turned_reads : (t : ℕ) (b : List ℕ) → Bits b → t < F.n → length b ≡ F.n → remainder (fg_of F) b ≡ g_padded F
      → (remainder (g_of F) (turned t b) ≡ zeros 75) × (remainder (f_of F) (turned t b) ≡ turn_remainder F t)
  turned_reads t b h p l e =
      let tb = bits_turned t b h in
      let le : t ≤ F.n = omega arith in (
        remainder_is 74 (g_of F) A.g_degree (turned t b) tb
            ∙ ap (λ (r : Reg 75). r.of)
            (rem-turned F A 74 (g_of F) A.g_degree (g_divides F A) t b le l ∙ ap (pow (mod_g F A) t) (g_of_fg F A b h e)
            ∙ pow-nil (mod_g F A) t),
        remainder_is 9 (f_of F) A.f_degree (turned t b) tb
            ∙ ap (λ (r : Reg 10). r.of)
            (rem-turned F A 9 (f_of F) A.f_degree (f_divides F A) t b le l ∙ ap (pow (mod_f F A) t) (f_of_fg F A b h e))
            ∙ sym (turn_is F A t),
      )

  -- what reads as turned by t is, turned back, a telegram with right check bits
  pub reads_turned : (t : ℕ) (b : List ℕ) → Bits b → t < F.n → length b ≡ F.n
      → remainder (g_of F) b ≡ zeros 75 → remainder (f_of F) b ≡ turn_remainder F t → remainder (fg_of F) (turned (F.n - t) b) ≡ g_padded F
  reads_turned t b h p l zg ef =
      let k = F.n - t in
      let back = turned k b in
      let tb = bits_turned k b h in
      let le : k ≤ F.n = omega arith in
      let all : k + t ≡ F.n = omega arith in
      let g = rem_f F A (g_of F) in
      let by-g : rem_g F A back ≡ none 75 =
      rem-turned F A 74 (g_of F) A.g_degree (g_divides F A) k b le l
      ∙ ap (pow (mod_g F A) k) (same_bits (sym (remainder_is 74 (g_of F) A.g_degree b h) ∙ zg)) ∙ pow-nil (mod_g F A) k in
      let by-f : rem_f F A back ≡ g =
      rem-turned F A 9 (f_of F) A.f_degree (f_divides F A) k b le l
      ∙ ap (pow (mod_f F A) k) (same_bits (sym (remainder_is 9 (f_of F) A.f_degree b h) ∙ ef ∙ turn_is F A t))
      ∙ sym (pow-add (mod_f F A) k t g) ∙ ap (λ (j : ℕ). pow (mod_f F A) j g) all ∙ g_round F A in
      remainder_is 84 (fg_of F) A.fg_degree back tb ∙ ap (λ (r : Reg 85). r.of) (by_both F A back tb by-g by-f) ∙ sym (padded_is F A)

  -- to flip all n bits changes no remainder by f*g
  pub flip_fg : (b : List ℕ) → Bits b → length b ≡ F.n → remainder (fg_of F) (flip b) ≡ remainder (fg_of F) b
  flip_fg = flipped F A 84 (fg_of F) A.fg_degree (fg_divides F A)

  -- the remainder at a turn is made of bits
  pub bits_turn : (s : ℕ) → Bits (turn_remainder F s)
  unfolding turn_remainder
  bits_turn s = remainder_bits (f_of F) (g_of F ++ zeros s) (all_bits-append (g_of F) (zeros s) A.g_degree.bits (bits_zeros s))

  -- ten of them
  pub length-turn : (s : ℕ) → length (turn_remainder F s) ≡ 10
  unfolding turn_remainder
  length-turn s = length-remainder A.f_degree (g_of F ++ zeros s)

  -- the check bits are bits
  pub bits_check_bits : (d : List ℕ) → Bits (check_bits F d)
  unfolding check_bits
  bits_check_bits d = bits_sum (remainder (fg_of F) (d ++ zeros 85)) (g_padded F)

  -- 85 of them
  pub length-check_bits : (d : List ℕ) → length (check_bits F d) ≡ 85
  unfolding check_bits
  length-check_bits d =
      let size = length-remainder A.fg_degree (d ++ zeros 85) in
      length-sum (remainder (fg_of F) (d ++ zeros 85)) (g_padded F) (size ∙ sym (length_padded F A)) ∙ size

  -- those of a sum: the remainder of what is added is added to them
  pub check_bits-sum : (d c : List ℕ) → Bits d → Bits c → length d ≡ length c
      → check_bits F (sum d c) ≡ sum (check_bits F d) (remainder (fg_of F) (c ++ zeros 85))
  unfolding check_bits
  check_bits-sum d c hd hc l =
      let above = d ++ zeros 85 in
      let added = c ++ zeros 85 in
      let rd = remainder (fg_of F) above in
      let rc = remainder (fg_of F) added in
      let g = g_padded F in
      let size : length above ≡ length added = length-append d (zeros 85) ∙ ap (λ (n : ℕ). n + 85) l ∙ sym (length-append c (zeros 85)) in
      let split : sum d c ++ zeros 85 ≡ sum above added =
      sym (sum-append d c (zeros 85) (zeros 85) l ∙ ap (λ (z : List ℕ). sum d c ++ z) (sum_self (zeros 85))) in
      let bits_above = all_bits-append d (zeros 85) hd (bits_zeros 85) in
      let bits-added = all_bits-append c (zeros 85) hc (bits_zeros 85) in
      ap (λ (v : List ℕ). sum (remainder (fg_of F) v) g) split
      ∙ ap (λ (v : List ℕ). sum v g) (remainder-sum A.fg_degree above added bits_above bits-added size)
      ∙ sum_assoc rd rc g ∙ ap (sum rd) (sum_comm rc g) ∙ sym (sum_assoc rd g rc)

  -- the check bits, and nothing else, make a telegram leave g
  pub checks : (d c : List ℕ) → Bits d → Bits c → length c ≡ 85 → (remainder (fg_of F) (d ++ c) ≡ g_padded F) ↔ (c ≡ check_bits F d)
  unfolding check_bits
  checks d c hd hc l =
      let M = mod_fg F A in
      let m = A.fg_degree in
      let reg : Reg 85 = record { of = c; bits = hc; size = l } in
      let front = rem_fg F A (d ++ zeros 85) in
      let g = rem_fg F A (g_of F) in
      let split : rem_fg F A (d ++ c) ≡ M.add front reg =
      times-append M d c (one 84)
      ∙ ap₂ M.add
      (ap (λ (j : ℕ). pow M j (rem_fg F A d)) l
      ∙ sym (run-append M (one 84) (none 85) d (zeros 85) ∙ zeros-back M (one 84) (rem_fg F A d) 85))
      (rem-short 84 (fg_of F) m reg) in
      let checked : check_bits F d ≡ (M.add front g).of =
      ap₂ sum (remainder_is 84 (fg_of F) m (d ++ zeros 85) (all_bits-append d (zeros 85) hd (bits_zeros 85))) (padded_is F A) in
      let whole_is = remainder_is 84 (fg_of F) m (d ++ c) (all_bits-append d c hd hc) in (
        λ e. ap (λ (r : Reg 85). r.of) (other M front reg g (sym split ∙ same_bits (sym whole_is ∙ e ∙ padded_is F A))) ∙ sym checked,
        λ e. whole_is ∙ ap (λ (r : Reg 85). r.of) (split ∙ ap (M.add front) (same_bits {a = reg} {b = M.add front g} (e ∙ checked)) ∙ twice M front g) ∙ sym (padded_is F A),
      )

-- f*g divides x^n+1 in the long format
pub long_round : remainder (fg_of long) (polynomial (long.n ∷ 0 ∷ [])) ≡ zeros 85
long_round = long_facts.round

-- and in the short one
pub short_round : remainder (fg_of short) (polynomial (short.n ∷ 0 ∷ [])) ≡ zeros 85
short_round = short_facts.round
