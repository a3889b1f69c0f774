-- The listing of all proper pairs of a block (document 02, No. 9): "Starting at pair 0, 0 and going on just after each answer, until no more
-- is said or 4095, 1023 was the answer, gives every proper pair once, in order, and no other."
-- Assumes nothing.
use Rattle.std.specs.Prelude.{ℕ, zero, suc, ◌+◌, ◌-◌, ◌*◌, ◌/◌, ◌%◌, ◌≤◌, ◌<◌, ◌≡◌, cond, List, [], ◌∷◌, Option, Result, Some, None, Ok, Err}
use Rattle.formats.specs.declared.format.Format.{Format}
use Rattle.formats.specs.Numbers.{numbers_of}
use Rattle.refusals.specs.Refused.{pair_count}
use Rattle.telegrams.specs.Telegram.{telegram_of, pair_with}
use Rattle.conditions.specs.Conditions.{proper}
use Rattle.lister.specs.Listing.{next_of, just_after}
use Rattle.telegrams.specs.declared.Pair.{Pair}
use Rattle.lister.specs.declared.Listed.{Listed}
use Rattle.refusals.specs.declared.Refusal.{Refusal}

-- B and esb
abbrev pub BAndEsb : Type 0
BAndEsb = ℕ × ℕ

-- ---- what the calls give

-- an answer, and what `rest` gives from just after it on
abbrev pub then_on : (Option Pair → List BAndEsb) → Result (Option Listed) Refusal → List BAndEsb
then_on rest (Ok (Some next)) = (next.pair.scrambling, next.pair.shaping) ∷ rest (just_after next.pair.scrambling next.pair.shaping)
then_on rest (Ok None) = []
then_on rest (Err r) = []

-- the pairs that at most so many calls give, each with the output as the call before left it
unfoldable pub listing : ℕ → List ℕ → List ℕ → Option Pair → List BAndEsb
listing zero u out onward = []
listing (suc calls) u out None = []
listing (suc calls) u out (Some onward) =
    let next = next_of u onward.scrambling onward.shaping out in
    then_on (listing calls u next.output) next.answer

-- ---- what they are to give

-- k pairs in counting order from pair p on: pair p has B = p / 1024 and esb = p % 1024
unfoldable pub pairs_from : ℕ → ℕ → List BAndEsb
pairs_from p zero = []
pairs_from p (suc k) = (p / 1024, p % 1024) ∷ pairs_from (suc p) k

-- those of a list that are proper for the block, in their order
unfoldable pub proper_of : Format → List ℕ → List BAndEsb → List BAndEsb
proper_of format u [] = []
proper_of format u ((B, esb) ∷ pairs) =
    let rest = proper_of format u pairs in
    cond (proper format (telegram_of (numbers_of format) u B esb)) ((B, esb) ∷ rest) rest

-- of all 4,194,304
unfoldable pub proper_pairs : Format → List ℕ → List BAndEsb
proper_pairs format u = proper_of format u (pairs_from 0 pair_count)

-- as many calls as there are pairs are enough, and more change nothing
pub record ListsAll (format : Format) (u out : List ℕ) : Type 0 where
  pub all : (calls : ℕ) → pair_count ≤ calls → listing calls u out (Some (pair_with 0 0)) ≡ proper_pairs format u
  -- and a listing that starts at B, esb gives those of the pairs from there on
  pub onward : (B esb : ℕ) → B < 4096 → esb < 1024 → (calls : ℕ) → pair_count ≤ calls
      → let p = 1024 * B + esb in listing calls u out (Some (pair_with B esb)) ≡ proper_of format u (pairs_from p (pair_count - p))
