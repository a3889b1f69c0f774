-- Bits written as a text. Assumes nothing.
use Rattle.std.specs.Prelude.{ℕ, cond, List, map, eqb}

-- character 0 for bit 0, character 1 for bit 1 and for a byte that is no bit
abbrev pub character_for : ℕ → ℕ
character_for b = cond (eqb b 0) 48 49

abbrev pub text_of : List ℕ → List ℕ
text_of s = map character_for s
