-- Bits read from a text, a byte at a time (document 01, "Bench sheet").
-- Assumes nothing.
use Rattle.std.specs.Prelude.{ℕ, cond, List, [], ◌∷◌, ◌++◌, eqb, ltb, length, take, drop, Result, Ok, Err}
use Rattle.refusals.specs.Outcome.{Outcome, outcome}
use Rattle.texts.specs.declared.reading.Character.{Character}
use Rattle.texts.specs.declared.reading.Character.TheVariants.{Bit, Skipped, Other}
use Rattle.texts.specs.declared.reading.BadText.{BadText}

-- characters 0 and 1 are bits, bytes 10 and 13 are skipped
unfoldable pub character_of : ℕ → Character
character_of byte =
    cond (eqb byte 48) (Bit 0)
    (cond (eqb byte 49) (Bit 1) (cond (eqb byte 10) Skipped (cond (eqb byte 13) Skipped Other)))

-- the bits taken so far, of a text that is good or bad so far
pub data Taken : Type 0 where
  good : List ℕ → Taken
  bad : List ℕ → Taken

-- a bit past the limit, as any other character, makes the text bad
abbrev pub with_character : ℕ → List ℕ → Character → Taken
with_character limit s (Bit b) = cond (ltb (length s) limit) (good (s ++ b ∷ [])) (bad s)
with_character limit s Skipped = good s
with_character limit s Other = bad s

-- with one byte more; a bad text stays bad
unfoldable pub next : ℕ → Taken → ℕ → Taken
next limit (good s) byte = with_character limit s (character_of byte)
next limit (bad s) byte = bad s

-- with a text more
unfoldable pub taken : ℕ → Taken → List ℕ → Taken
taken limit t [] = t
taken limit t (byte ∷ text) = taken limit (next limit t byte) text

abbrev pub bits_in : Taken → List ℕ
bits_in (good s) = s
bits_in (bad s) = s

-- how many bits were taken, or that the text is bad
abbrev pub progress_of : Taken → Result ℕ BadText
progress_of (good s) = Ok (length s)
progress_of (bad s) = Err record {}

-- a text that is good so far, whose bits are the first count of a buffer
abbrev pub held : ℕ → List ℕ → Taken
held count buffer = good (take count buffer)

-- s written over the front of a buffer
abbrev pub over : List ℕ → List ℕ → List ℕ
over s old = s ++ drop (length s) old

-- the answer, and the buffer with the bits that were taken in its front
abbrev pub kept : Taken → List ℕ → Outcome (Result ℕ BadText)
kept t old = outcome (progress_of t) (over (bits_in t) old)

-- a text is taken after the bits that the first count of a buffer hold; the limit is the buffer's length
abbrev pub taken_into : List ℕ → ℕ → List ℕ → Outcome (Result ℕ BadText)
taken_into old count text = kept (taken (length old) (held count old) text) old
