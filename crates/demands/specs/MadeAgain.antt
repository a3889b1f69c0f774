-- What was read is made again, and what was encoded, and what was made reads back (document 02, No. 11), about the calls themselves
-- (`read_by`, `search_read_of`, `encode_of`, `make_of`).
-- Assumes nothing.
use Rattle.std.specs.Prelude.{ℕ, ◌≤◌, ◌<◌, Bool, List, ◌≡◌, length, take, drop, Ok}
use Rattle.formats.specs.declared.format.Format.{Format}
use Rattle.formats.specs.Numbers.{numbers_of, window_bits}
use Rattle.refusals.specs.Outcome.{outcome}
use Rattle.encoder.specs.Encoding.{encode_of, encoded_with}
use Rattle.maker.specs.Making.{wrote, make_of}
use Rattle.reader.specs.declared.Asked.{Asked}
use Rattle.reader.specs.declared.Reading.{Reading}
use Rattle.reader.specs.Windows.{cut}
use Rattle.reader.specs.Reads.{read_by, read_well_formed_of}
use Rattle.reader.specs.ReadsExactly.{gave_block}
use Rattle.captures.specs.Captures.{search_read_of, found_with}

-- make, given the user bits at the front of o and the reading's B and esb, and lent room, makes a telegram of the reading's format; its n
-- bits, cut at the reading's turn, upright or flipped as it says, n bits long, are the first n bits of w
pub record MadeAgain (reading : Reading) (o lent w : List ℕ) : Type 0 where
  pub answers : (make_of (take (numbers_of reading.format).m o) reading.scrambling reading.shaping lent).answer ≡ Ok reading.format
  pub bits : let F = numbers_of reading.format in
      let made = make_of (take F.m o) reading.scrambling reading.shaping lent in
      cut F.n reading.turn reading.flipped (take F.n made.output) ≡ take F.n w

pub record MakesAgain : Type 0 where
  -- "Made again from a reading, the telegram turned and flipped as reported gives the window's first n bits.": by either window call
  pub window : (asked : Asked) (w out : List ℕ) (reading : Reading) (o : List ℕ) → read_by asked w out ≡ outcome (Ok reading) o
      → (lent : List ℕ) → (numbers_of reading.format).n ≤ length lent → MadeAgain reading o lent w
  -- and by the search of a capture s, whose window stands at the place p
  pub capture : (s out : List ℕ) (p : ℕ) (reading : Reading) (o : List ℕ) → search_read_of s out ≡ outcome (Ok (found_with p reading)) o
      → (lent : List ℕ) → (numbers_of reading.format).n ≤ length lent → MadeAgain reading o lent (drop p s)
  -- what encode wrote is made again from its answer
  pub encoded : (u out : List ℕ) (format : Format) (B esb tried : ℕ) → (encode_of u out).answer ≡ Ok (encoded_with format B esb tried)
      → (lent : List ℕ) → (numbers_of format).n ≤ length lent
      → make_of u B esb lent ≡ wrote format (take (numbers_of format).n (encode_of u out).output) lent
  -- what was made reads back: every window of its n bits, by read_well_formed, to the block, B, esb, turn and way up
  pub reads_back : (u : List ℕ) (B esb : ℕ) (lent : List ℕ) (format : Format) → (make_of u B esb lent).answer ≡ Ok format
      → (t : ℕ) → t < (numbers_of format).n → (flipped : Bool) (out : List ℕ) → (numbers_of format).m ≤ length out
      → let b = take (numbers_of format).n (make_of u B esb lent).output in
      read_well_formed_of (cut (window_bits (numbers_of format)) t flipped b) out ≡ gave_block format B esb t flipped u out
