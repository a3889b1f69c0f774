-- The block of ones of each format has a proper telegram: antt computes the telegram and the tests. Assumes nothing.
use mathlib.Core.Path.{◌≡◌, sym, subst}
use Prim.Native.Nat.{◌<◌}
use native.Mathlib.Omega.{arith}
use lib.Dec.{T}
use lib.ListN.{length, length-replicate}
use Rattle.bits.specs.Bits.{all_bits, number_from, bits_of}
use Rattle.bits.specs.Differences.{differences}
use Rattle.bits.specs.Groups.{over_groups}
use Rattle.formats.specs.declared.format.Format.{Format}
use Rattle.formats.specs.declared.format.Format.TheVariants.{Long, Short}
use Rattle.formats.specs.Numbers.{numbers_of, f_of, g_of, fg_of}
use Rattle.formats.specs.Polynomial.{coefficient_of, coefficients_below, polynomial, sum, product}
use Rattle.words.specs.Table.{table}
use Rattle.words.specs.Words.{word_of, lookup_from, lookup_of, is_word}
use Rattle.scrambling.specs.Scrambling.{next_state, scrambled_from, scrambled}
use Rattle.scrambling.specs.Sum.{with_sum}
use Rattle.cyclic.specs.Remainder.{step, remainder_from, remainder}
use Rattle.cyclic.specs.Check.{g_padded, check_bits}
use Rattle.telegrams.specs.Telegram.{shaped_data, settings, unchecked, telegram_of}
use Rattle.conditions.specs.Runs.{longest_after}
use Rattle.conditions.specs.Conditions.{each, limit_at, proper}
use Rattle.witnesses.specs.Pairs.{ones_of, scrambling, shaping, telegram}
use Rattle.witnesses.proofs.Twice.{valid_in}
use Rattle.witnesses.proofs.Tests.{thinned_in, proper_twice, proper_is}

-- ---- a block of the format, and a pair

pub ones_bits : (format : Format) → T (all_bits (ones_of format))
unfolding all_bits
ones_bits Long = tt
ones_bits Short = tt

pub ones_size : (format : Format) → length (ones_of format) ≡ (numbers_of format).m
ones_size format = length-replicate (numbers_of format).m 1

pub scrambling_below : (format : Format) → scrambling format < 4096
scrambling_below Long = omega arith
scrambling_below Short = omega arith

pub shaping_below : (format : Format) → shaping format < 1024
shaping_below Long = omega arith
shaping_below Short = omega arith

-- ---- the telegram is proper

long-passes : T (proper_twice Long (telegram Long))
unfolding telegram_of unchecked settings shaped_data over_groups check_bits g_padded remainder remainder_from step fg_of f_of g_of polynomial coefficients_below coefficient_of sum product scrambled scrambled_from next_state with_sum word_of table bits_of number_from is_word lookup_of lookup_from differences longest_after each limit_at valid_in thinned_in
long-passes = tt

short-passes : T (proper_twice Short (telegram Short))
unfolding telegram_of unchecked settings shaped_data over_groups check_bits g_padded remainder remainder_from step fg_of f_of g_of polynomial coefficients_below coefficient_of sum product scrambled scrambled_from next_state with_sum word_of table bits_of number_from is_word lookup_of lookup_from differences longest_after each limit_at valid_in thinned_in
short-passes = tt

passes : (format : Format) → T (proper_twice format (telegram format))
passes Long = long-passes
passes Short = short-passes

pub ones-proper : (format : Format) → T (proper format (telegram format))
ones-proper format = subst T (sym (proper_is format (ones_of format) (scrambling format) (shaping format))) (passes format)
