-- Demand 3, as document 01 has it under "Demand 3's windows", about encoding and reading themselves (`encode_of`, `read_of`): what encode
-- writes, and the four points on its windows, each for every turn, upright and flipped.
-- Assumes nothing.
use Rattle.std.specs.Prelude.{ℕ, ◌+◌, ◌*◌, ◌≤◌, ◌<◌, Bool, List, ◌≡◌, T, length, take, Result, Ok, Err}
use Rattle.bits.specs.Bits.{all_bits}
use Rattle.bits.specs.Differences.{differences}
use Rattle.formats.specs.declared.format.Format.{Format}
use Rattle.formats.specs.declared.format.Format.TheVariants.{Long, Short}
use Rattle.formats.specs.Numbers.{long, short, numbers_of, window_bits}
use Rattle.refusals.specs.declared.Refusal.{Refusal}
use Rattle.refusals.specs.declared.Refusal.TheVariants.{OutputShort, EndsDiffer, NoTurn}
use Rattle.refusals.specs.Outcome.{Outcome, outcome}
use Rattle.encoder.specs.Encoding.{encode_of, encoded_with}
use Rattle.encoder.specs.FirstPair.{ProperPair, FirstProper}
use Rattle.encoder.specs.Encodes.{wrote_pair}
use Rattle.reader.specs.Windows.{cut}
use Rattle.reader.specs.Reads.{read_of}
use Rattle.reader.specs.ReadsExactly.{gave_block}
use Rattle.reader.specs.declared.Reading.{Reading}

-- u is a user block of the format for which some pair gives a proper telegram
pub record SomeProper (format : Format) (u : List ℕ) : Type 0 where
  pub bits : T (all_bits u)
  pub size : length u ≡ (numbers_of format).m
  pub scrambling : ℕ
  pub shaping : ℕ
  pub scrambling_below : scrambling < 4096
  pub shaping_below : shaping < 1024
  pub proper_pair : ProperPair format u scrambling shaping

-- u is such a block; encode, lent room, answered with the pair B, esb; and b are the n bits it wrote
pub record Wrote (format : Format) (u : List ℕ) (B esb : ℕ) (b : List ℕ) : Type 0 where
  pub block : SomeProper format u
  pub lent : List ℕ
  pub room : (numbers_of format).n ≤ length lent
  pub answered : (encode_of u lent).answer ≡ Ok (encoded_with format B esb (1024 * B + esb + 1))
  pub wrote : b ≡ take (numbers_of format).n (encode_of u lent).output

-- reading: refused, the output as it was
abbrev pub refused_with : Refusal → List ℕ → Outcome (Result Reading Refusal)
refused_with refusal out = outcome (Err refusal) out

-- the demand; refusals 3, 5 and 7 are `OutputShort`, `EndsDiffer` and `NoTurn`
pub record Demand3 : Type 0 where
  -- lent room, encode answers with the first such pair, B and esb, and writes that pair's telegram
  pub encodes : (format : Format) (u out : List ℕ) → SomeProper format u → (numbers_of format).n ≤ length out
      → (B : ℕ) × (esb : ℕ) × FirstProper format u B esb × (encode_of u out ≡ wrote_pair format u out B esb)
  -- L = n + r, undamaged, room for m: read accepts, and gives the telegram's format, that B, turn t, upright or flipped as it was cut, and u;
  -- and that esb (document 02, No. 11)
  pub reads_back : (format : Format) (u : List ℕ) (B esb : ℕ) (b : List ℕ) → Wrote format u B esb b
      → (t : ℕ) → t < (numbers_of format).n → (flipped : Bool) (out : List ℕ) → (numbers_of format).m ≤ length out
      → read_of (cut (window_bits (numbers_of format)) t flipped b) out ≡ gave_block format B esb t flipped u out
  -- if undamaged windows of L = n + r, cut for blocks u and v of one format, are the same bits, then u = v, their turns are equal, and
  -- both are upright or both flipped
  pub one_block : (format : Format) (u v : List ℕ) (B esb C e : ℕ) (b c : List ℕ) → Wrote format u B esb b → Wrote format v C e c
      → (s t : ℕ) → s < (numbers_of format).n → t < (numbers_of format).n → (flipped flipped' : Bool)
      → cut (window_bits (numbers_of format)) s flipped b ≡ cut (window_bits (numbers_of format)) t flipped' c
      → (u ≡ v) × (s ≡ t) × (flipped ≡ flipped')
  -- L = 462 from a long telegram, any 0 to 14 of its bits changed, each to the other of 0 and 1: read refuses, with 3 if the output is too
  -- short, otherwise with 5
  pub short_from_long : (u : List ℕ) (B esb : ℕ) (b : List ℕ) → Wrote Long u B esb b → (t : ℕ) → t < long.n → (flipped : Bool)
      → (w : List ℕ) → T (all_bits w) → length w ≡ 462 → differences (cut 462 t flipped b) w ≤ 14
      → (out : List ℕ)
      → (length out < short.m → read_of w out ≡ refused_with OutputShort out) × (short.m ≤ length out → read_of w out ≡ refused_with EndsDiffer out)
  -- L = 1100 from a short telegram, undamaged: read refuses, with 3 if the output is too short, otherwise with 7
  pub long_from_short : (u : List ℕ) (B esb : ℕ) (b : List ℕ) → Wrote Short u B esb b → (t : ℕ) → t < short.n → (flipped : Bool)
      → (out : List ℕ)
      → (length out < long.m → read_of (cut 1100 t flipped b) out ≡ refused_with OutputShort out)
      × (long.m ≤ length out → read_of (cut 1100 t flipped b) out ≡ refused_with NoTurn out)
