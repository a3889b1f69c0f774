-- Windows, as they are cut from a telegram going round (document 01, "Search, reading and place").
-- Assumes nothing.
use Rattle.std.specs.Prelude.{ℕ, Bool, true, false, List}
use Rattle.bits.specs.Bits.{around, flip}

-- the bits as they are, or flipped
abbrev pub oriented : Bool → List ℕ → List ℕ
oriented true b = flip b
oriented false b = b

-- k bits cut at turn t, upright or flipped: at j stands b(n-1-t-j), index modulo n, or 1 minus that bit
unfoldable pub cut : ℕ → ℕ → Bool → List ℕ → List ℕ
cut k t flipped b = oriented flipped (around k t b)
