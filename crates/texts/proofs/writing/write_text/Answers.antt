-- `texts::writing::write_text` meets its contract. The loop's invariant: the characters of the bits passed are written.
-- Assumes nothing.
use Rattle.std.proofs.Common.{◌≡◌, ℕ, ◌+◌, ◌<◌, List, ◌++◌, length, take, drop, set, get_or, append_assoc, arith}
use Rattle.std.proofs.lemmas.List.{take_more, drop_more, map-append, set_at, length-map, length-take}
use Rattle.texts.specs.Writing.{character_for, text_of}
use Rattle.texts.proofs.writing.write_text.Goals as goal

-- one more character is stored after those of the first i bits
more : (bits old : List ℕ) (i : ℕ) → i < length bits → i < length old
    → set (text_of (take i bits) ++ drop i old) i (character_for (get_or bits i 0)) ≡ text_of (take (i + 1) bits) ++ drop (i + 1) old
more bits old i h k =
    let size : length (text_of (take i bits)) ≡ i = simp (length-map, length-take) (omega arith) in
    rw (drop_more old i 0 k, set_at (text_of (take i bits)) (get_or old i 0) (drop (i + 1) old) (character_for (get_or bits i 0)) i size, take_more bits i 0 h, map-append, append_assoc)

pub loop-i-preserved : goal.loop-i-preserved
loop-i-preserved c =
    let l = c.loop-i in
    rw (l.invariant, c.character_for.ensures) (more c.args.bits.now c.args.text.now l.i (omega arith) (omega arith))
