-- The cyclic code of a format, from its computed facts, in the spaces of the remainders by f, g and f*g.
-- Assumes nothing.
use Rattle.std.proofs.Common.{◌≡◌, ℕ, suc, ◌-◌, ◌<◌, ◌≤◌, List, [], ◌∷◌, ◌++◌, length, take, drop, replicate, sym, ap, ◌∙◌, ap₂, arith, lit<, length-append, length-drop, take-append-drop, length-take}
use lib.ListN.{length-replicate}
use Rattle.bits.specs.Bits.{flip}
use Rattle.formats.specs.Polynomial.{sum, product, polynomial}
use Rattle.formats.specs.Numbers.{Numbers, f_of, g_of, fg_of}
use Rattle.cyclic.specs.Remainder.{remainder}
use Rattle.cyclic.specs.Check.{g_padded, turned, turn_remainder}
use Rattle.bits.proofs.AllBits.{all_bits-append}
use Rattle.bits.proofs.Flipped.{all_bits-flip}
use Rattle.cyclic.proofs.Lists.{Bits, zeros, length-zeros, bits_zeros, bits_replicate, flip-sum}
use Rattle.cyclic.proofs.Space.{Space, times, pow, times-times, times-nil, times-sum, times-one, pow-times, equal_of_nil, unit_right, turn, run-append, zeros-front, zeros-back}
use Rattle.cyclic.proofs.Products.{times-product, bits_product, times-zeros, two_terms, bits_polynomial}
use Rattle.cyclic.proofs.Registers.{Reg, same_bits, Monic, By, rem, remainder_is, one, none}
use Rattle.cyclic.proofs.Quotients.{short, rem_itself, quotient, quotient_bits, through, whole}
use Rattle.cyclic.proofs.Facts.{Facts}

module _ (F : Numbers) (A : Facts F) where
  -- f*g acts as f after g
  fg_times : (M : Space) (e : M.Car) → times M (fg_of F) e ≡ times M (f_of F) (times M (g_of F) e)
  unfolding fg_of
  fg_times M e = times-product M (f_of F) (g_of F) 75 e A.f_degree.bits A.g_degree.size

  -- f divides f*g
  pub f_divides : rem 9 (f_of F) A.f_degree (fg_of F) ≡ none 10
  f_divides =
      let M = By 9 (f_of F) A.f_degree in
      fg_times M (one 9) ∙ times-times M (f_of F) (g_of F) (one 9) ∙ ap (times M (g_of F)) (rem_itself 9 (f_of F) A.f_degree)
      ∙ times-nil M (g_of F)

  -- g divides f*g
  pub g_divides : rem 74 (g_of F) A.g_degree (fg_of F) ≡ none 75
  g_divides =
      let M = By 74 (g_of F) A.g_degree in
      fg_times M (one 74) ∙ ap (times M (f_of F)) (rem_itself 74 (g_of F) A.g_degree) ∙ times-nil M (f_of F)

  -- f*g divides itself
  pub fg_divides : rem 84 (fg_of F) A.fg_degree (fg_of F) ≡ none 85
  fg_divides = rem_itself 84 (fg_of F) A.fg_degree

  -- a divisor d of f*g
  module _ (k : ℕ) (d : List ℕ) (m : Monic (suc k) d) (z : rem k d m (fg_of F) ≡ none (suc k)) where
    -- n shifts do nothing
    pub round_trip : pow (By k d m) F.n (one k) ≡ one k
    round_trip =
        let M = By k d m in
        let p = polynomial (F.n ∷ 0 ∷ []) in
        let positive : 0 < F.n = omega (arith, A.many) in
        equal_of_nil M (pow M F.n (one k)) (one k)
        (sym (two_terms M F.n (one k) positive)
        ∙ whole 84 (fg_of F) A.fg_degree M (one k) p (bits_polynomial (F.n ∷ 0 ∷ [])) A.round
        ∙ ap (times M (quotient 84 (fg_of F) A.fg_degree p)) z ∙ times-nil M (quotient 84 (fg_of F) A.fg_degree p))

    -- to turn by t is to shift t times
    pub rem-turned : (t : ℕ) (b : List ℕ) → t ≤ F.n → length b ≡ F.n → rem k d m (turned t b) ≡ pow (By k d m) t (rem k d m b)
    unfolding turned
    rem-turned t b h l =
        let M = By k d m in
        let size : length (take t b) ≡ t = length-take t b ∙ omega arith in
        turn M F.n (one k) round_trip (drop t b) (take t b) (omega (arith, length-drop t b, size))
        ∙ ap₂ (λ (j : ℕ) (v : List ℕ). pow M j (times M v (one k))) size (take-append-drop t b)

    -- n ones leave nothing by d
    rem-ones : rem k d m (replicate F.n 1) ≡ none (suc k)
    rem-ones =
        let M = By k d m in
        sym (through 84 (fg_of F) A.fg_degree M (one k) (replicate F.n 1) (bits_replicate F.n 1 (lit< tt)) z)
        ∙ ap (λ (v : List ℕ). times M v (one k)) A.ones ∙ times-zeros M 85 (one k)

    -- so to flip n bits changes no register
    rem-flip : (b : List ℕ) → Bits b → length b ≡ F.n → rem k d m (flip b) ≡ rem k d m b
    rem-flip b h l =
        let M = By k d m in
        let ones : List ℕ = replicate F.n 1 in
        ap (λ (v : List ℕ). times M v (one k)) (flip-sum b h ∙ ap (λ (j : ℕ). sum b (replicate j 1)) l)
        ∙ times-sum M b ones (one k) (l ∙ sym (length-replicate F.n 1))
        ∙ ap (M.add (rem k d m b)) rem-ones ∙ unit_right M (rem k d m b)

    -- and no remainder
    pub flipped : (b : List ℕ) → Bits b → length b ≡ F.n → remainder d (flip b) ≡ remainder d b
    flipped b h l =
        remainder_is k d m (flip b) (all_bits-flip b) ∙ ap (λ (r : Reg (suc k)). r.of) (rem-flip b h l) ∙ sym (remainder_is k d m b h)

    -- g, padded or not
    pub rem_padded : rem k d m (g_padded F) ≡ rem k d m (g_of F)
    unfolding g_padded
    rem_padded = zeros-front (By k d m) (85 - length (g_of F)) (g_of F) (one k)

  -- the space of the remainders by f
  abbrev pub mod_f : Space
  mod_f = By 9 (f_of F) A.f_degree

  -- by g
  abbrev pub mod_g : Space
  mod_g = By 74 (g_of F) A.g_degree

  -- and by f*g
  abbrev pub mod_fg : Space
  mod_fg = By 84 (fg_of F) A.fg_degree

  -- the remainder of v by f, as a register
  abbrev pub rem_f : List ℕ → Reg 10
  rem_f v = rem 9 (f_of F) A.f_degree v

  -- by g
  abbrev pub rem_g : List ℕ → Reg 75
  rem_g v = rem 74 (g_of F) A.g_degree v

  -- and by f*g
  abbrev pub rem_fg : List ℕ → Reg 85
  rem_fg v = rem 84 (fg_of F) A.fg_degree v

  -- the padded g is made of bits
  pub bits_padded : Bits (g_padded F)
  unfolding g_padded
  bits_padded = all_bits-append (zeros (85 - length (g_of F))) (g_of F) (bits_zeros (85 - length (g_of F))) A.g_degree.bits

  -- 85 of them
  pub length_padded : length (g_padded F) ≡ 85
  unfolding g_padded
  length_padded =
      length-append (zeros (85 - length (g_of F))) (g_of F)
      ∙ omega (arith, length-zeros (85 - length (g_of F)), A.g_degree.size)

  -- it is the remainder of g by f*g
  pub padded_is : g_padded F ≡ (rem_fg (g_of F)).of
  padded_is =
      sym (short 84 (fg_of F) A.fg_degree (g_padded F) length_padded) ∙ remainder_is 84 (fg_of F) A.fg_degree (g_padded F) bits_padded
      ∙ ap (λ (r : Reg 85). r.of) (rem_padded 84 (fg_of F) A.fg_degree fg_divides)

  -- the remainder by f at turn s: that of g shifted s times
  pub turn_is : (s : ℕ) → turn_remainder F s ≡ (pow mod_f s (rem_f (g_of F))).of
  unfolding turn_remainder
  turn_is s =
      remainder_is 9 (f_of F) A.f_degree (g_of F ++ zeros s) (all_bits-append (g_of F) (zeros s) A.g_degree.bits (bits_zeros s))
      ∙ ap (λ (r : Reg 10). r.of) (run-append mod_f (one 9) (none 10) (g_of F) (zeros s) ∙ zeros-back mod_f (one 9) (rem_f (g_of F)) s)

  -- n turns of g give g
  pub g_round : pow mod_f F.n (rem_f (g_of F)) ≡ rem_f (g_of F)
  g_round = pow-times mod_f F.n (g_of F) (one 9) ∙ ap (times mod_f (g_of F)) (round_trip 9 (f_of F) A.f_degree f_divides)

  -- the inverse times g is 1 by f
  inverse_g : times mod_f A.inverse (rem_f (g_of F)) ≡ one 9
  inverse_g =
      sym (times-product mod_f A.inverse (g_of F) 75 (one 9) A.inverse_bits A.g_degree.size)
      ∙ same_bits (sym (remainder_is 9 (f_of F) A.f_degree (product A.inverse (g_of F)) (bits_product A.inverse (g_of F))) ∙ A.coprime)

  -- what g divides and leaves g by f leaves g by f*g
  pub by_both : (v : List ℕ) → Bits v → rem_g v ≡ none 75 → rem_f v ≡ rem_f (g_of F) → rem_fg v ≡ rem_fg (g_of F)
  by_both v h zg ef =
      let q = quotient 74 (g_of F) A.g_degree v in
      let qb = quotient_bits 74 (g_of F) A.g_degree v h in
      let z = remainder_is 74 (g_of F) A.g_degree v h ∙ ap (λ (r : Reg 75). r.of) zg in
      let c = A.inverse in
      let by-f : times mod_f q (rem_f (g_of F)) ≡ rem_f (g_of F) = sym (whole 74 (g_of F) A.g_degree mod_f (one 9) v h z) ∙ ef in
      let unit : rem_f q ≡ one 9 =
      ap (times mod_f q) (sym inverse_g) ∙ times-times mod_f q c (rem_f (g_of F)) ∙ ap (times mod_f c) by-f ∙ inverse_g in
      let nothing : times mod_fg (f_of F) (rem_fg (g_of F)) ≡ none 85 = sym (fg_times mod_fg (one 84)) ∙ fg_divides in
      whole 74 (g_of F) A.g_degree mod_fg (one 84) v h z
      ∙ sym (through 9 (f_of F) A.f_degree mod_fg (rem_fg (g_of F)) q qb nothing)
      ∙ ap (λ (l : List ℕ). times mod_fg l (rem_fg (g_of F))) (remainder_is 9 (f_of F) A.f_degree q qb ∙ ap (λ (r : Reg 10). r.of) unit)
      ∙ zeros-front mod_fg 9 (1 ∷ []) (rem_fg (g_of F)) ∙ times-one mod_fg (rem_fg (g_of F))

  -- what leaves g by f*g is divided by g
  pub g_of_fg : (v : List ℕ) → Bits v → remainder (fg_of F) v ≡ g_padded F → rem_g v ≡ none 75
  g_of_fg v h e =
      sym (through 84 (fg_of F) A.fg_degree mod_g (one 74) v h g_divides)
      ∙ ap rem_g e ∙ rem_padded 74 (g_of F) A.g_degree g_divides ∙ rem_itself 74 (g_of F) A.g_degree

  -- and leaves g by f
  pub f_of_fg : (v : List ℕ) → Bits v → remainder (fg_of F) v ≡ g_padded F → rem_f v ≡ rem_f (g_of F)
  f_of_fg v h e =
      sym (through 84 (fg_of F) A.fg_degree mod_f (one 9) v h f_divides)
      ∙ ap rem_f e ∙ rem_padded 9 (f_of F) A.f_degree f_divides
