-- W1 to W12 of the bench sheet, as one list. All but the turn of W10 is computed. Assumes nothing.
use mathlib.Core.Path.{◌≡◌, refl, ap, ◌∙◌}
use mathlib.Core.Bool.{true, false}
use mathlib.Core.List.{List, [], ◌∷◌, ◌++◌}
use Prim.Native.Nat.{ℕ}
use native.Mathlib.Omega.{arith}
use lib.Dec.{lit≤}
use lib.ListN.{get_or, replicate}
use Rattle.bits.specs.Bits.{all_bits, same, number_from, bits_of}
use Rattle.bits.specs.Groups.{over_groups}
use Rattle.formats.specs.declared.format.Format.TheVariants.{Long, Short}
use Rattle.refusals.specs.declared.Refusal.{Refusal}
use Rattle.refusals.specs.declared.Refusal.TheVariants.{Length, EndsDiffer, NoTurn}
use Rattle.refusals.specs.Refused.{refusal_number}
use Rattle.refusals.specs.Outcome.{Outcome, outcome}
use Rattle.formats.specs.Polynomial.{polynomial, coefficients_below, coefficient_of, sum}
use Rattle.formats.specs.Numbers.{short, format_for, f_of, g_of}
use Rattle.words.specs.Table.{table}
use Rattle.words.specs.Words.{word_of}
use Rattle.scrambling.specs.Scrambling.{next_state, scrambled_from, scrambled}
use Rattle.scrambling.specs.Sum.{with_sum, without_sum}
use Rattle.cyclic.specs.Remainder.{step, remainder_from, remainder}
use Rattle.cyclic.specs.Check.{divisible}
use Rattle.cyclic.proofs.Laws.{zeros}
use Rattle.reader.specs.declared.Asked.TheVariants.{Proper}
use Rattle.reader.specs.Reads.{read_values, ends_agree, read_of}
use Rattle.reader.proofs.Steps.{any_window, read_as_lem, ends_refused, turn_refused, length_refused}
use Rattle.demands.specs.BenchSheet.{refused_read, answers, sheet}
use Rattle.demands.proofs.LongFromShort.{zero_no_turn}
use Rattle.std.specs.Prelude.{Result, Err}
use Rattle.reader.specs.declared.Reading.{Reading}

-- W10: 462 zeros pass the tests before the turn, and leave the remainder 0 by f
zeros_bits : all_bits (replicate 462 0) ≡ true
unfolding all_bits
zeros_bits = refl

zeros_ends : ends_agree short (replicate 462 0) ≡ true
unfolding ends_agree same
zeros_ends = refl

zeros-divisible : divisible short (replicate 341 0) ≡ true
unfolding divisible same remainder remainder_from step sum g_of polynomial coefficients_below coefficient_of
zeros-divisible = refl

zeros_rest : remainder (f_of short) (replicate 341 0) ≡ zeros 10
unfolding remainder remainder_from step sum f_of polynomial coefficients_below coefficient_of
zeros_rest = refl

zeros_read : read_of (replicate 462 0) (replicate 210 0) ≡ outcome (Err NoTurn) (replicate 210 0)
zeros_read =
    read_as_lem Proper Short (replicate 462 0) (replicate 210 0) refl
    ∙ turn_refused Proper Short (replicate 462 0) (replicate 210 0) refl zeros_bits (lit≤ tt) zeros_ends zeros-divisible
    (zero_no_turn Short (replicate 462 0) zeros_rest)

-- the number that a reading of w answers
read_number : (w : List ℕ) (r : Refusal) → read_of w (replicate 210 0) ≡ outcome (Err r) (replicate 210 0) → refused_read w ≡ refusal_number r
unfolding refused_read
read_number w r e = ap (λ (o : Outcome (Result Reading Refusal)). get_or (read_values o.answer) 0 0) e

no_turn : refused_read (replicate 462 0) ≡ 7
no_turn = read_number (replicate 462 0) NoTurn zeros_read

-- W11: the last bit made 1
abbrev last_1 : List ℕ
last_1 = replicate 461 0 ++ (1 ∷ [])

last_bits : all_bits last_1 ≡ true
unfolding all_bits
last_bits = refl

last_ends : ends_agree short last_1 ≡ false
unfolding ends_agree same
last_ends = refl

ends_differ : refused_read last_1 ≡ 5
ends_differ =
    read_number last_1 EndsDiffer
    (read_as_lem Proper Short last_1 (replicate 210 0) refl ∙ ends_refused Proper Short last_1 (replicate 210 0) refl last_bits (lit≤ tt) last_ends)

-- W12: 461 zeros
length_of_none : refused_read (replicate 461 0) ≡ 1
unfolding format_for
length_of_none =
    read_number (replicate 461 0) Length
    (any_window Proper (replicate 461 0) (replicate 210 0) ∙ length_refused Proper Long (replicate 461 0) (replicate 210 0) (λ e. omega arith))

-- the sheet with these three left open
open_sheet : ℕ → ℕ → ℕ → List ℕ
open_sheet x y z =
    0o00101 ∷ 0o03676 ∷ 2801775573 ∷ 1413323819 ∷ 1021 ∷ 0o03674 ∷ 802 ∷ 76 ∷ 1000 ∷ 735 ∷ 427 ∷ x ∷ y ∷ z ∷ []

computed : answers ≡ open_sheet (refused_read (replicate 462 0)) (refused_read (replicate 461 0 ++ (1 ∷ []))) (refused_read (replicate 461 0))
unfolding answers open_sheet word_of table number_from bits_of scrambled scrambled_from next_state with_sum without_sum over_groups remainder remainder_from step sum f_of polynomial coefficients_below coefficient_of
computed = refl

pub bench_sheet : answers ≡ sheet
unfolding open_sheet sheet
bench_sheet = computed ∙ rw (no_turn, ends_differ, length_of_none)
