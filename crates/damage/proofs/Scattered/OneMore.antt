-- One change more than is surely refused: a multiple of g with 15 coefficients that are 1 (long), or 17 (short), the first r of the n being 0,
-- added to the window, is refused neither with 5 nor with 6. Assumes nothing.
use Prim.Native.Nat.{ℕ, suc, ◌-◌}
use mathlib.Core.Path.{◌≡◌, refl, ◌∙◌}
use mathlib.Core.List.{List, [], ◌∷◌, ◌++◌}
use lib.ListN.{length}
use Rattle.bits.specs.Bits.{all_bits}
use Rattle.bits.proofs.AllBits.{all_bits-append}
use Rattle.formats.specs.declared.format.Format.{Format}
use Rattle.formats.specs.declared.format.Format.TheVariants.{Long, Short}
use Rattle.formats.specs.Polynomial.{polynomial, coefficient_of, coefficients_below, sum}
use Rattle.formats.specs.Numbers.{numbers_of, window_bits, g_of}
use Rattle.cyclic.specs.Remainder.{step, remainder_from, remainder}
use Rattle.cyclic.proofs.Lists.{zeros, bits_zeros, bits_sum}
use Rattle.reader.specs.declared.Asked.{Asked}
use Rattle.reader.specs.Windows.{cut}
use Rattle.damage.specs.Scattered.{scatter_limit, Scattered, MissesScattered}
use Rattle.damage.specs.Readers.{read_with, the_tests}
use Rattle.damage.proofs.Sums.{ones, differences-added}
use Rattle.damage.proofs.Windows.{Whole, cut_whole}
use Rattle.damage.proofs.Unseen.{Unseen, to_window, added, fits, added_size, unseen}

-- the multiple of g, by its exponents
unfoldable multiple : Format → List ℕ
multiple Long = polynomial (945 ∷ 806 ∷ 624 ∷ 595 ∷ 564 ∷ 560 ∷ 539 ∷ 521 ∷ 480 ∷ 479 ∷ 390 ∷ 299 ∷ 189 ∷ 18 ∷ 16 ∷ [])
multiple Short = polynomial (211 ∷ 208 ∷ 192 ∷ 182 ∷ 179 ∷ 158 ∷ 146 ∷ 145 ∷ 130 ∷ 127 ∷ 117 ∷ 112 ∷ 106 ∷ 71 ∷ 66 ∷ 37 ∷ 35 ∷ [])

-- its n coefficients
unfoldable coefficients : Format → List ℕ
coefficients format = zeros ((numbers_of format).n - length (multiple format)) ++ multiple format

multiple_unseen : (format : Format) → Unseen (numbers_of format) (coefficients format)
unfolding multiple coefficients all_bits polynomial coefficient_of coefficients_below g_of sum step remainder_from remainder
multiple_unseen Long = record { bits = tt; size = refl; divided = refl; first = refl }
multiple_unseen Short = record { bits = tt; size = refl; divided = refl; first = refl }

-- it changes one bit more
multiple-ones : (format : Format) → ones (to_window (numbers_of format) (coefficients format)) ≡ suc (scatter_limit format)
unfolding multiple coefficients polynomial coefficient_of coefficients_below ones
multiple-ones Long = refl
multiple-ones Short = refl

one_more : (format : Format) (w : List ℕ) → Whole (numbers_of format) w
    → Scattered (suc (scatter_limit format)) w (added (numbers_of format) (coefficients format) w)
one_more format w whole =
    let F = numbers_of format in
    let e = coefficients format in
    let u = multiple_unseen format in
    record {
      size = added_size format e u w whole;
      bits = bits_sum w (to_window F e);
      changes =
          differences-added w (to_window F e) whole.bits (all_bits-append e (zeros F.r) u.bits (bits_zeros F.r)) (fits format e u w whole)
          ∙ multiple-ones format;
    }

-- ---- what a reader answers that tests the ends and divides as the window calls do

pub misses_scattered : (asked : Asked) → MissesScattered (read_with the_tests asked)
misses_scattered asked =
    record {
      misses = λ of format b h t below flipped.
          let w = cut (window_bits (numbers_of format)) t flipped b in
          let e = coefficients format in
          let whole = cut_whole of format b h t below flipped in
          (added (numbers_of format) e w, one_more format w whole, unseen format e (multiple_unseen format) w whole asked);
    }
