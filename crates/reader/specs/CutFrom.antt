-- A window that is cut from a proper telegram going round, or from a well-formed one (the request, demand 2; document 01, "Search, reading
-- and place"; document 02, No. 2 and No. 11).
-- Assumes nothing.
use Rattle.std.specs.Prelude.{ℕ, ◌<◌, Bool, List, ◌≡◌, T}
use Rattle.formats.specs.declared.format.Format.{Format}
use Rattle.formats.specs.Numbers.{numbers_of, window_bits}
use Rattle.telegrams.specs.Fields.{scrambling_of, shaping_of, user_bits_of, well_formed}
use Rattle.conditions.specs.Conditions.{proper}
use Rattle.reader.specs.declared.Asked.{Asked}
use Rattle.reader.specs.declared.Asked.TheVariants.{WellFormed, Proper}
use Rattle.reader.specs.Windows.{cut}

-- what a call asks of the telegram in a window
abbrev pub is_asked : Asked → Format → List ℕ → Bool
is_asked WellFormed format b = well_formed (numbers_of format) b
is_asked Proper format b = proper format b

-- w is the window of n + r bits cut at turn t, upright or flipped, from a telegram of the format that is as asked, has the scrambling
-- bits B and the extra shaping bits esb, and carries the user bits u
pub record CutFrom (asked : Asked) (format : Format) (w : List ℕ) (B esb t : ℕ) (flipped : Bool) (u : List ℕ) : Type 0 where
  pub telegram : List ℕ
  pub as_asked : T (is_asked asked format telegram)
  pub scrambling : scrambling_of (numbers_of format) telegram ≡ B
  pub shaping : shaping_of (numbers_of format) telegram ≡ esb
  pub user_bits : user_bits_of (numbers_of format) telegram ≡ u
  pub turn : t < (numbers_of format).n
  pub window : w ≡ cut (window_bits (numbers_of format)) t flipped telegram
