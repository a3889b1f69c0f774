-- A number in decimal digits, one to nine of them. Assumes nothing.
use Rattle.std.specs.Prelude.{ℕ, ◌+◌, ◌-◌, ◌*◌, Bool, cond, ◌&&◌, List, [], ◌∷◌, leb, length, Option, Some, None}

-- characters 0 to 9
abbrev pub is_digit : ℕ → Bool
is_digit byte = leb 48 byte && leb byte 57

-- the number x with the digits of a text after those of x
unfoldable pub digits_from : ℕ → List ℕ → Option ℕ
digits_from x [] = Some x
digits_from x (byte ∷ text) = cond (is_digit byte) (digits_from (x * 10 + (byte - 48)) text) None

-- a text of one to nine digits is a number
unfoldable pub decimal_of : List ℕ → Option ℕ
decimal_of text = cond (leb 1 (length text) && leb (length text) 9) (digits_from 0 text) None
