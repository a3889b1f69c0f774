-- Three rounds of a short telegram, as a long window: g of the long format divides them, and so does f.
-- Assumes nothing.
use Rattle.std.proofs.Common.{◌≡◌, ℕ, ◌+◌, List, [], ◌∷◌, ◌++◌, length, sym, refl, ap, ◌∙◌}
use Rattle.formats.specs.Polynomial.{product, polynomial, coefficient_of, coefficients_below}
use Rattle.formats.specs.Numbers.{long, short, f_of, g_of}
use Rattle.cyclic.specs.Remainder.{remainder}
use Rattle.bits.proofs.AllBits.{all_bits-append}
use Rattle.cyclic.proofs.Lists.{Bits, zeros}
use Rattle.cyclic.proofs.Space.{Space, times, pow, times-nil, times-one, zeros-front}
use Rattle.cyclic.proofs.Products.{times-product, bits_product, bits_polynomial, rounds}
use Rattle.cyclic.proofs.Registers.{Reg, same_bits, By, remainder_is, one, none}
use Rattle.cyclic.proofs.Quotients.{quotient, whole}
use Rattle.cyclic.proofs.Facts.{long_facts, short_facts, long_g_divides, long_f_divides}

-- x^682+x^341+1
P : List ℕ
P = polynomial (682 ∷ 341 ∷ 0 ∷ [])

-- with zeros before it, three times 1 in 341 bits
P_rounds : let o = zeros 340 ++ (1 ∷ []) in zeros 340 ++ P ≡ o ++ (o ++ o)
unfolding P polynomial coefficients_below coefficient_of
P_rounds = refl

-- it has 683 coefficients
length_P : length P ≡ 683
unfolding P polynomial coefficients_below
length_P = refl

-- three rounds of 341 bits are they times P
rounds_P : (M : Space) (v : List ℕ) (e : M.Car) → length v ≡ short.n → times M (v ++ (v ++ v)) e ≡ times M v (times M P e)
rounds_P M v e l =
    let o : List ℕ = zeros 340 ++ (1 ∷ []) in
    let three : M.Car = M.add (pow M (341 + 341) e) (M.add (pow M 341 e) e) in
    let as-three : times M P e ≡ three =
    sym (zeros-front M 340 P e) ∙ ap (λ (u : List ℕ). times M u e) P_rounds ∙ rounds M o e
    ∙ zeros-front M 340 (1 ∷ []) three ∙ times-one M three in
    rounds M v e ∙ ap (λ (n : ℕ). times M v (M.add (pow M (n + n) e) (M.add (pow M n e) e))) l ∙ ap (times M v) (sym as-three)

-- what the short g divides leaves, thrice, nothing by the long g and nothing by the long f
pub thrice : (v : List ℕ) → Bits v → length v ≡ short.n → remainder (g_of short) v ≡ zeros 75
    → (remainder (g_of long) (v ++ (v ++ v)) ≡ zeros 75) × (remainder (f_of long) (v ++ (v ++ v)) ≡ zeros 10)
unfolding P
thrice v h l z =
    let tb = all_bits-append v (v ++ v) h (all_bits-append v v h h) in
    let pb = bits_polynomial (682 ∷ 341 ∷ 0 ∷ []) in
    let gm = long_facts.g_degree in
    let fm = long_facts.f_degree in
    let sm = short_facts.g_degree in
    let G = By 74 (g_of long) gm in
    let H = By 9 (f_of long) fm in
    let by-g : times G (g_of short) (times G P (one 74)) ≡ none 75 =
    sym (times-product G (g_of short) P 682 (one 74) sm.bits length_P)
    ∙ same_bits (sym (remainder_is 74 (g_of long) gm (product (g_of short) P) (bits_product (g_of short) P)) ∙ long_g_divides) in
    let by-f : times H P (one 9) ≡ none 10 = same_bits (sym (remainder_is 9 (f_of long) fm P pb) ∙ long_f_divides) in (
      remainder_is 74 (g_of long) gm (v ++ (v ++ v)) tb
          ∙ ap (λ (r : Reg 75). r.of)
          (rounds_P G v (one 74) l ∙ whole 74 (g_of short) sm G (times G P (one 74)) v h z
          ∙ ap (times G (quotient 74 (g_of short) sm v)) by-g ∙ times-nil G (quotient 74 (g_of short) sm v)),
      remainder_is 9 (f_of long) fm (v ++ (v ++ v)) tb
          ∙ ap (λ (r : Reg 10). r.of) (rounds_P H v (one 9) l ∙ ap (times H v) by-f ∙ times-nil H v),
    )
