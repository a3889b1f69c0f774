-- The values of answers as numbers (document 01, "When the bench says no" and "Search, reading and place"; document 02, No. 13). A list of
-- them has the number first: that of the refusal, or 0 where nothing is refused.
-- Assumes nothing.
use Rattle.std.specs.Prelude.{ℕ, Bool, true, false, List, [], ◌∷◌}
use Rattle.formats.specs.declared.format.Format.{Format}
use Rattle.formats.specs.declared.format.Format.TheVariants.{Long, Short}
use Rattle.words.specs.Words.{kind_number}
use Rattle.refusals.specs.declared.Refusal.{Refusal}
use Rattle.refusals.specs.Refused.{refusal_number, bad_word_in}

-- 0 long, 1 short
abbrev pub format_number : Format → ℕ
format_number Long = 0
format_number Short = 1

-- 0 upright, 1 flipped
abbrev pub flipped_number : Bool → ℕ
flipped_number false = 0
flipped_number true = 1

-- a refusal of check, make, read or read_well_formed: its number; 0 where an answer without one has its format, and 0 for upright or
-- flipped; then the kind, by its number, and the index of the bad word that refusal 9 carries, and 0 and 0 for every other
abbrev pub refusal_values : Refusal → List ℕ
refusal_values refusal = refusal_number refusal ∷ 0 ∷ 0 ∷ kind_number (bad_word_in refusal).kind ∷ (bad_word_in refusal).index ∷ []
