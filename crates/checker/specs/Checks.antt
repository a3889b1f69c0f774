-- What checking a telegram means (document 01, "When the bench says no" and "What the bench can be held to": the refusal table, "whose
-- numbers are given when they apply and not otherwise"; document 02, No. 13).
-- Assumes nothing.
use Rattle.std.specs.Prelude.{ℕ, ◌≡◌, List, ◌↔◌, T, Ok, Err}
use Rattle.formats.specs.declared.format.Format.{Format}
use Rattle.formats.specs.Numbers.{numbers_of}
use Rattle.words.specs.declared.BadWord.{BadWord}
use Rattle.refusals.specs.declared.Refusal.TheVariants.{NotWord}
use Rattle.refusals.specs.Refused.{refusal_number}
use Rattle.refusals.specs.Table.{RefusesBy}
use Rattle.telegrams.specs.Worded.{IsFirstBad, ControlAndCheck}
use Rattle.conditions.specs.Conditions.{proper}
use Rattle.checker.specs.Checking.{format_of, check_table, check_of}

pub record Checks (b : List ℕ) : Type 0 where
  -- "The lowest number that applies is given."
  pub refuses : RefusesBy refusal_number Err (check_table (format_of b) b) (check_of b)
  -- the proper telegrams of a format are accepted as that format's, and no others
  pub accepts : (format : Format) → (check_of b ≡ Ok format) ↔ T (proper format b)
  -- document 02, No. 13: "refusal 9 now carries the kind and the index of the first bad word", and is given exactly where control and check
  -- bits are right and a word is bad
  pub names : (bad : BadWord)
      → (check_of b ≡ Err (NotWord bad)) ↔ (let F = numbers_of (format_of b) in ControlAndCheck F b × IsFirstBad F.words b bad)
