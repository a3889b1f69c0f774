-- The refusals' numbers are those of a byte; and what refusal 9 carries. Assumes nothing.
use mathlib.Core.Path.{◌≡◌, refl}
use Prim.Native.Nat.{◌≤◌, ◌<◌}
use native.Mathlib.Omega.{arith}
use Rattle.refusals.specs.declared.Refusal.{Refusal}
use Rattle.refusals.specs.declared.Refusal.TheVariants.{Length, NotBit, OutputShort, NoPair, EndsDiffer, NotDivisible, NoTurn, Control, NotWord, OffStep, Repeating, Thinned, NoPlace, PairTooLarge}
use Rattle.words.specs.declared.BadWord.{BadWord}
use Rattle.refusals.specs.Refused.{refusal_number, no_word, bad_word_in}

-- and not 0, which stands for none
pub number_fits : (refusal : Refusal) → (1 ≤ refusal_number refusal) × (refusal_number refusal < 256)
number_fits Length = (omega arith, omega arith)
number_fits NotBit = (omega arith, omega arith)
number_fits OutputShort = (omega arith, omega arith)
number_fits NoPair = (omega arith, omega arith)
number_fits EndsDiffer = (omega arith, omega arith)
number_fits NotDivisible = (omega arith, omega arith)
number_fits NoTurn = (omega arith, omega arith)
number_fits Control = (omega arith, omega arith)
number_fits (NotWord bad) = (omega arith, omega arith)
number_fits OffStep = (omega arith, omega arith)
number_fits Repeating = (omega arith, omega arith)
number_fits Thinned = (omega arith, omega arith)
number_fits NoPlace = (omega arith, omega arith)
number_fits PairTooLarge = (omega arith, omega arith)

-- what holds of the bad word that refusal 9 carries, and of the one that stands for none, holds of every refusal's
pub carried : (P : BadWord → Type 0) (refusal : Refusal) → P no_word → ((bad : BadWord) → refusal ≡ NotWord bad → P bad) → P (bad_word_in refusal)
carried P Length none some = none
carried P NotBit none some = none
carried P OutputShort none some = none
carried P NoPair none some = none
carried P EndsDiffer none some = none
carried P NotDivisible none some = none
carried P NoTurn none some = none
carried P Control none some = none
carried P (NotWord bad) none some = some bad refl
carried P OffStep none some = none
carried P Repeating none some = none
carried P Thinned none some = none
carried P NoPlace none some = none
carried P PairTooLarge none some = none
