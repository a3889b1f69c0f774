-- Condition 2 on the shaped data alone (document 01, "Four conditions of a proper telegram"; document 02, No. 7). d is b(n-1) to b110, and
-- the words off step by p that lie in it are one fewer than its own. For the contracts of private functions. Assumes nothing.
use Rattle.std.specs.Prelude.{ℕ, ◌-◌, Bool, List, leb}
use Rattle.formats.specs.declared.format.Format.{Format}
use Rattle.formats.specs.Numbers.{numbers_of, blocks}
use Rattle.conditions.specs.Runs.{valid_words, longest}
use Rattle.conditions.specs.Conditions.{from_to, limit_at}

-- off step by p, on the strip
unfoldable pub data_within_at : Format → List ℕ → ℕ → Bool
data_within_at format d p = leb (longest (valid_words (blocks (numbers_of format) - 1) p d)) (limit_at format p)

unfoldable pub data_within : Format → List ℕ → Bool
data_within format d = from_to 1 10 (data_within_at format d)
