-- Where a text is bad (document 01, "Bench sheet"). Assumes nothing.
use Rattle.std.specs.Prelude.{ℕ, suc, ◌-◌, Bool, true, false, cond, List, [], ◌∷◌, eqb}
use Rattle.texts.specs.declared.reading.Character.{Character}
use Rattle.texts.specs.declared.reading.Character.TheVariants.{Bit, Skipped, Other}
use Rattle.texts.specs.Reading.{character_of}

-- is a character a fault, where there is room for so many bits?
abbrev pub is_fault : ℕ → Character → Bool
is_fault room (Bit b) = eqb room 0
is_fault room Skipped = false
is_fault room Other = true

-- the room that a character leaves
abbrev pub room_after : ℕ → Character → ℕ
room_after room (Bit b) = room - 1
room_after room Skipped = room
room_after room Other = room

-- how many bytes of a text stand before its first fault, where there is room for so many bits; all of them where
-- there is no fault
unfoldable pub good_bytes : ℕ → List ℕ → ℕ
good_bytes room [] = 0
good_bytes room (byte ∷ text) =
    let character = character_of byte in
    cond (is_fault room character) 0 (suc (good_bytes (room_after room character) text))
