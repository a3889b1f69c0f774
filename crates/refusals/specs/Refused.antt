-- The refusals' numbers, and what refusals 4 and 9 carry (document 01, "When the bench says no"; document 02, No. 11 and No. 13).
-- Assumes nothing.
use Rattle.std.specs.Prelude.{ℕ, cond, eqb}
use Rattle.words.specs.declared.Kind.TheVariants.{Other}
use Rattle.words.specs.declared.BadWord.{BadWord}
use Rattle.refusals.specs.declared.Refusal.{Refusal}
use Rattle.refusals.specs.declared.Refusal.TheVariants.{Length, NotBit, OutputShort, NoPair, EndsDiffer, NotDivisible, NoTurn, Control, NotWord, OffStep, Repeating, Thinned, NoPlace, PairTooLarge}

-- the pairs of scrambling and extra shaping bits: B from 0 to 4095 and, within each, esb from 0 to 1023
abbrev pub pair_count : ℕ
pair_count = 4194304

-- the number of each, in the order of document 01's list, and 27, B or esb too large
abbrev pub refusal_number : Refusal → ℕ
refusal_number Length = 1
refusal_number NotBit = 2
refusal_number OutputShort = 3
refusal_number NoPair = 4
refusal_number EndsDiffer = 5
refusal_number NotDivisible = 6
refusal_number NoTurn = 7
refusal_number Control = 8
refusal_number (NotWord bad) = 9
refusal_number OffStep = 10
refusal_number Repeating = 11
refusal_number Thinned = 12
refusal_number NoPlace = 13
refusal_number PairTooLarge = 27

-- the count of pairs tried that refusal 4 carries, which is that of all pairs; 0 for every other
abbrev pub tried_count : Refusal → ℕ
tried_count refusal = cond (eqb (refusal_number refusal) 4) pair_count 0

-- the bad word that refusal 9 carries (document 02, No. 13); for every other one whose numbers are 0
abbrev pub no_word : BadWord
no_word = record { kind = Other; index = 0 }

abbrev pub bad_word_in : Refusal → BadWord
bad_word_in Length = no_word
bad_word_in NotBit = no_word
bad_word_in OutputShort = no_word
bad_word_in NoPair = no_word
bad_word_in EndsDiffer = no_word
bad_word_in NotDivisible = no_word
bad_word_in NoTurn = no_word
bad_word_in Control = no_word
bad_word_in (NotWord bad) = bad
bad_word_in OffStep = no_word
bad_word_in Repeating = no_word
bad_word_in Thinned = no_word
bad_word_in NoPlace = no_word
bad_word_in PairTooLarge = no_word
