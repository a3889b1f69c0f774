-- The words (document 01, "Words"; document 02, No. 13): the word of a number, the barred words, and the number or the kind of a word.
-- Assumes nothing.
use Rattle.std.specs.Prelude.{ℕ, zero, suc, ◌/◌, ◌%◌, ◌^◌, Bool, true, false, cond, ◌&&◌, ◌||◌, List, [], ◌∷◌, eqb, ltb, get_or, Result, Ok, Err, is_ok}
use Rattle.bits.specs.Bits.{number_of}
use Rattle.words.specs.declared.Kind.{Kind}
use Rattle.words.specs.declared.Kind.TheVariants.{Group250, Group20, Other}
use Rattle.words.specs.Table.{table}

-- the word of the number i: entry i of the table
unfoldable pub word_of : ℕ → ℕ
word_of i = get_or table i 0

-- an eleven-bit word begins, or ends, with these five bits
abbrev pub begins_with : ℕ → ℕ → Bool
begins_with five w = eqb (w / 2 ^ 6) five

abbrev pub ends_with : ℕ → ℕ → Bool
ends_with five w = eqb (w % 2 ^ 5) five

-- the group of 250: begins or ends with 00000 or 11111, or is 10000000001 or its flip 01111111110
unfoldable pub in_group250 : ℕ → Bool
in_group250 w =
    ltb w (2 ^ 11)
    && (begins_with 0b00000 w || begins_with 0b11111 w || ends_with 0b00000 w || ends_with 0b11111 w
    || eqb w 0b10000000001 || eqb w 0b01111111110)

-- the group of 20: ten words, and then their flips
unfoldable pub barred20 : List ℕ
barred20 =
    0b01010101010 ∷ 0b00100100100 ∷ 0b01001001001 ∷ 0b10010010010 ∷ 0b00010001000 ∷
    0b00100010001 ∷ 0b01000100010 ∷ 0b10001000100 ∷ 0b00110011001 ∷ 0b01100110011 ∷
    0b10101010101 ∷ 0b11011011011 ∷ 0b10110110110 ∷ 0b01101101101 ∷ 0b11101110111 ∷
    0b11011101110 ∷ 0b10111011101 ∷ 0b01110111011 ∷ 0b11001100110 ∷ 0b10011001100 ∷
    []

-- the word is one of the list
unfoldable pub among : ℕ → List ℕ → Bool
among w [] = false
among w (x ∷ xs) = eqb x w || among w xs

unfoldable pub in_group20 : ℕ → Bool
in_group20 w = among w barred20

-- what a word is that the table does not have (document 02, No. 13): "in the group of 250, in the group of 20, or simply not in the table"
unfoldable pub kind_of : ℕ → Kind
kind_of w = cond (in_group250 w) Group250 (cond (in_group20 w) Group20 Other)

-- the kind's number: how many words its group has, and 0 where it is no group
abbrev pub kind_number : Kind → ℕ
kind_number Group250 = 250
kind_number Group20 = 20
kind_number Other = 0

-- the place of the word w in the list, counted from i; where it is not in it, its kind
unfoldable pub lookup_from : ℕ → List ℕ → ℕ → Result ℕ Kind
lookup_from i [] w = Err (kind_of w)
lookup_from i (x ∷ xs) w = cond (eqb x w) (Ok i) (lookup_from (suc i) xs w)

-- the number of the word w, found by going through the table from the front, or its kind
unfoldable pub lookup_of : ℕ → Result ℕ Kind
lookup_of w = lookup_from 0 table w

-- whether the word w is in the table
abbrev pub in_table : ℕ → Bool
in_table w = is_ok (lookup_of w)

-- the eleven bits are a word of the table
unfoldable pub is_word : List ℕ → Bool
is_word w = in_table (number_of w)

-- the number of a word that the table has, else 0
abbrev pub number_in : Result ℕ Kind → ℕ
number_in (Ok i) = i
number_in (Err kind) = 0

abbrev pub one_more_if : Bool → ℕ → ℕ
one_more_if true n = suc n
one_more_if false n = n

-- how many of the numbers below n pass the test
unfoldable pub how_many : (ℕ → Bool) → ℕ → ℕ
how_many test zero = 0
how_many test (suc n) = one_more_if (test n) (how_many test n)
