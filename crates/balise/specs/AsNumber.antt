-- The answer of each public call as one number: its values (document 01, "When the bench says no"), the number of the refusal first,
-- each in a field of its own from the lowest binary digit up.
-- Assumes nothing.
use Rattle.std.specs.Prelude.{ℕ, ◌+◌, ◌*◌, ◌/◌, ◌%◌, ◌<◌, ◌≡◌, List, [], ◌∷◌, ◌++◌}

-- `sizes` says how many values each field has, the lowest field first; a field without a value is 0
abbrev pub packed : List ℕ → List ℕ → ℕ
packed [] vs = 0
packed (size ∷ sizes) [] = 0
packed (size ∷ sizes) (v ∷ vs) = v + size * packed sizes vs

-- ---- the fields of each answer

-- bits 0 to 7 the number, 8 the format, 9 to 20 B, 21 to 30 esb, 31 to 53 the count of pairs tried
abbrev pub encoded_sizes : List ℕ
encoded_sizes = 256 ∷ 2 ∷ 4096 ∷ 1024 ∷ 8388608 ∷ []

-- bits 0 to 7 the number, 8 the format; of refusal 9 bits 10 to 21 the kind's number and 22 to 31 the index of the first bad word
-- (document 02, No. 13)
abbrev pub checked_sizes : List ℕ
checked_sizes = 256 ∷ 2 ∷ 2 ∷ 4096 ∷ 1024 ∷ []

-- as check's
abbrev pub made_sizes : List ℕ
made_sizes = checked_sizes

-- bits 0 to 7 the number, 8 the format, 9 to 20 B, 21 to 30 esb, 31 whether there are no more
abbrev pub listed_sizes : List ℕ
listed_sizes = 256 ∷ 2 ∷ 4096 ∷ 1024 ∷ 2 ∷ []

-- bits 0 to 7 the number, 8 the format, 9 whether it was flipped, 10 to 21 B, 22 to 31 the turn, 32 to 47 the place, 48 to 57 esb; of
-- refusal 9 as check's
abbrev pub read_sizes : List ℕ
read_sizes = 256 ∷ 2 ∷ 2 ∷ 4096 ∷ 1024 ∷ 65536 ∷ 1024 ∷ []

-- as those of a reading
abbrev pub search_sizes : List ℕ
search_sizes = read_sizes

-- ---- reading the fields back

-- what each field of a number holds, and last what is above the fields
abbrev pub unpacked : List ℕ → ℕ → List ℕ
unpacked [] x = x ∷ []
unpacked (size ∷ sizes) x = x % size ∷ unpacked sizes (x / size)

-- there is a field for each value, and the value is below the field's size
abbrev pub Fits : List ℕ → List ℕ → Type 0
Fits sizes [] = Unit
Fits [] (v ∷ vs) = ⊥
Fits (size ∷ sizes) (v ∷ vs) = (v < size) × Fits sizes vs

-- the values, then 0 for each field without one and 0 for what is above the fields
abbrev pub filled : List ℕ → List ℕ → List ℕ
filled [] vs = vs ++ (0 ∷ [])
filled (size ∷ sizes) [] = 0 ∷ filled sizes []
filled (size ∷ sizes) (v ∷ vs) = v ∷ filled sizes vs

-- the fields of the number hold the values that it packs
abbrev pub ReadBack : List ℕ → List ℕ → Type 0
ReadBack sizes vs = unpacked sizes (packed sizes vs) ≡ filled sizes vs
