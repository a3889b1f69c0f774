-- The check bits, and the turn of a window from its remainder by f (document 01, "Check bits" and "Search, reading and place").
-- Assumes nothing.
use Rattle.std.specs.Prelude.{ℕ, ◌-◌, Bool, List, ◌++◌, length, take, drop, replicate, Option, Some, None}
use Rattle.bits.specs.Bits.{same}
use Rattle.bits.specs.Search.{First, found, none, first_of}
use Rattle.formats.specs.Polynomial.{sum}
use Rattle.formats.specs.Numbers.{Numbers, f_of, g_of, fg_of}
use Rattle.cyclic.specs.Remainder.{remainder}

-- g with as many coefficients as there are check bits, 85
unfoldable pub g_padded : Numbers → List ℕ
g_padded F = replicate (85 - length (g_of F)) 0 ++ g_of F

-- b84 to b0 from b(n-1) to b85: the remainder of these times x^85 by f*g, plus g
unfoldable pub check_bits : Numbers → List ℕ → List ℕ
check_bits F d = sum (remainder (fg_of F) (d ++ replicate 85 0)) (g_padded F)

-- the telegram b read from b(n-1-t) on, round to b(n-t)
unfoldable pub turned : ℕ → List ℕ → List ℕ
turned t b = drop t b ++ take t b

-- the remainder by f of every telegram turned by s: that of g times x^s
unfoldable pub turn_remainder : Numbers → ℕ → List ℕ
turn_remainder F s = remainder (f_of F) (g_of F ++ replicate s 0)

-- the remainder by f of a telegram turned by s is v
abbrev pub leaves : Numbers → List ℕ → ℕ → Bool
leaves F v s = same (turn_remainder F s) v

abbrev pub turn_from : First → Option ℕ
turn_from (found s) = Some s
turn_from none = None

-- the turn, 0 to n-1, whose remainder by f is v, or none
unfoldable pub turn_of : Numbers → List ℕ → Option ℕ
turn_of F v = turn_from (first_of (leaves F v) 0 F.n)

-- g divides b
unfoldable pub divisible : Numbers → List ℕ → Bool
divisible F b = same (remainder (g_of F) b) (replicate 75 0)

-- the remainder by f is that of turn 0
unfoldable pub unturned : Numbers → List ℕ → Bool
unturned F b = same (remainder (f_of F) b) (turn_remainder F 0)
