-- One bit more lost, or one bit nearer to an edge: a short telegram in which 21 neighbouring bits have the period 5, 20 have the period 4 and 76
-- have the period 11, so that the ends agree although 5 bits, or 4, or 11 were lost there. Assumes nothing.
use Prim.Native.Nat.{ℕ, suc, ◌+◌, ◌-◌, ◌≤◌, ◌<◌}
use mathlib.Core.Bool.{Bool, false, ◌&&◌}
use mathlib.Core.Path.{refl}
use mathlib.Core.List.{List, ◌++◌}
use lib.Dec.{T, lit<, lit≤, eqb, eqb→eq}
use lib.ListN.{length, take, drop}
use Rattle.bits.specs.Bits.{all_bits, same, number_from, bits_of, around}
use Rattle.bits.specs.Groups.{over_groups}
use Rattle.bits.proofs.And.{and_left, and_right}
use Rattle.bits.proofs.Tests.{is_true}
use Rattle.formats.specs.declared.format.Format.TheVariants.{Short}
use Rattle.formats.specs.Polynomial.{sum, product, polynomial, coefficient_of, coefficients_below}
use Rattle.formats.specs.Numbers.{short, window_bits, f_of, g_of, fg_of}
use Rattle.words.specs.Table.{table}
use Rattle.words.specs.Words.{lookup_from, lookup_of, is_word}
use Rattle.cyclic.specs.Remainder.{step, remainder_from, remainder}
use Rattle.cyclic.specs.Check.{g_padded, check_bits}
use Rattle.telegrams.specs.Fields.{control_of, checked, well_formed}
use Rattle.reader.specs.declared.Asked.{Asked}
use Rattle.reader.specs.Windows.{cut}
use Rattle.reader.specs.Reads.{ends_agree}
use Rattle.damage.specs.Readers.{read_with, the_tests}
use Rattle.damage.specs.Slips.{slip_limit, slip_reach, far_slip_limit, far_slip_reach, MissesLost, MissesSlips}
use Rattle.damage.proofs.Readers.{never_5}

-- the telegram
unfoldable periodic : List ℕ
periodic = bits_of short.n 3974307476195486211935176040816827831285633311929143026757069464705113862064316183899829075521119444293

periodic_formed : T (well_formed short periodic)
unfolding periodic well_formed control_of checked all_bits same number_from bits_of over_groups is_word lookup_of lookup_from table check_bits g_padded remainder remainder_from step fg_of f_of g_of polynomial coefficients_below coefficient_of sum product
periodic_formed = tt

-- the window of it with s bits lost from the place q on, cut at the turn t
abbrev without : ℕ → ℕ → ℕ → List ℕ
without s q t = let x = cut (window_bits short + s) t false periodic in take q x ++ drop (q + s) x

-- it is one, and its ends agree
abbrev agrees : ℕ → ℕ → ℕ → Bool
agrees s q t = eqb (length (without s q t)) (window_bits short) && ends_agree short (without s q t)

-- so it is not refused with 5
missed_at : (asked : Asked) (reach s q t : ℕ) → reach ≤ q + s → reach + q ≤ window_bits short + s → t < short.n → T (agrees s q t)
    → MissesLost (read_with the_tests asked) reach s
missed_at asked reach s q t before after below h =
    let v = without s q t in
    let size = eqb→eq (length v) (window_bits short) (and_left (eqb (length v) (window_bits short)) (ends_agree short v) h) in
    let ends = and_right (eqb (length v) (window_bits short)) (ends_agree short v) h in
    record {
      format = Short;
      telegram = periodic;
      formed = periodic_formed;
      turn = t;
      below = below;
      v = v;
      lost = record { place = q; before = before; after = after; window = refl };
      missed = λ out. never_5 the_tests asked Short v out size (is_true (ends_agree short v) ends);
    }

-- 21 bits have the period 5 from the place 42 of the telegram on, 20 have the period 4 from 12 on, and 76 have the period 11 from 66 on
five_lost : T (agrees (suc slip_limit) 16 42)
unfolding periodic bits_of cut around ends_agree same
five_lost = tt

four_lost : T (agrees slip_limit 16 12)
unfolding periodic bits_of cut around ends_agree same
four_lost = tt

eleven_lost : T (agrees (suc far_slip_limit) 65 66)
unfolding periodic bits_of cut around ends_agree same
eleven_lost = tt

pub misses_slips : (asked : Asked) → MissesSlips (read_with the_tests asked)
misses_slips asked =
    record {
      longer = missed_at asked slip_reach (suc slip_limit) 16 42 (lit≤ tt) (lit≤ tt) (lit< tt) five_lost;
      nearer = missed_at asked (slip_reach - 1) slip_limit 16 12 (lit≤ tt) (lit≤ tt) (lit< tt) four_lost;
      far_longer = missed_at asked far_slip_reach (suc far_slip_limit) 65 66 (lit≤ tt) (lit≤ tt) (lit< tt) eleven_lost;
    }
