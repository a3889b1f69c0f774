-- How values that are no numbers are passed to and from another language.
-- Assumes nothing.
use Rattle.std.specs.Prelude.{ℕ, ◌+◌, ◌/◌, ◌%◌, ◌^◌, Bool, true, false, List, [], ◌∷◌, Option, Result, Ok, Err}
use Rattle.std.specs.Option.{unwrap_or}
use Rattle.bits.specs.Search.{First, found, none}
use Rattle.formats.specs.Numbers.{Numbers, numbers_of}
use Rattle.formats.specs.declared.format.Format.{Format}
use Rattle.formats.specs.declared.format.Format.TheVariants.{Long, Short}
use Rattle.words.specs.Words.{kind_number}
use Rattle.words.specs.declared.Kind.{Kind}

-- the format: long, or otherwise short
abbrev pub format_of : Bool → Format
format_of true = Long
format_of false = Short

-- the format's numbers
abbrev pub numbers : Bool → Numbers
numbers isLong = numbers_of (format_of isLong)

-- the number that a look-up finds, or 1024 and the number of the kind
abbrev pub number_or_kind : Result ℕ Kind → ℕ
number_or_kind (Ok i) = i
number_or_kind (Err kind) = 1024 + kind_number kind

-- the turn, or n where there is none
abbrev pub turn_or : ℕ → Option ℕ → ℕ
turn_or n turn = unwrap_or turn n

-- the place found, or n where none is
abbrev pub place_or : ℕ → First → ℕ
place_or n (found p) = p
place_or n none = n

-- a number below 2^128 as two words of 64 bits, the high one first
abbrev pub two_words : ℕ → List ℕ
two_words v = v / 2 ^ 64 ∷ v % 2 ^ 64 ∷ []
