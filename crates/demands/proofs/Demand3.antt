-- Demand 3 (document 01, "Demand 3's windows"): every undamaged window of a telegram that encode wrote reads back to its block and its
-- turn, none comes from two blocks, a short window of a long telegram is refused with up to 14 bits changed, and so is an undamaged long
-- window of a short one. Assumes nothing.
use mathlib.Core.Path.{◌≡◌, refl, ap, subst⁻¹, ◌∙◌}
use mathlib.Core.Bool.{Bool, false}
use mathlib.Core.List.{List}
use Prim.Native.Nat.{ℕ, ◌≤◌, ◌<◌}
use native.Mathlib.Omega.{arith}
use lib.Dec.{T}
use lib.ListN.{length}
use Rattle.bits.specs.Bits.{all_bits, around}
use Rattle.bits.specs.Differences.{differences}
use Rattle.bits.proofs.Ring.{length-around, all_bits-around}
use Rattle.bits.proofs.Tests.{is_true}
use Rattle.formats.specs.declared.format.Format.{Format}
use Rattle.formats.specs.declared.format.Format.TheVariants.{Long, Short}
use Rattle.formats.specs.Numbers.{numbers_of, window_bits, long, short}
use Rattle.refusals.specs.declared.Refusal.TheVariants.{OutputShort, EndsDiffer, NoTurn}
use Rattle.telegrams.proofs.WellFormed.{parts}
use Rattle.conditions.specs.Conditions.{not_repeating}
use Rattle.conditions.proofs.Proper.{proper_parts}
use Rattle.encoder.specs.Encoding.{encode_of}
use Rattle.encoder.specs.FirstPair.{FirstProper}
use Rattle.encoder.specs.Encodes.{wrote_pair}
use Rattle.encoder.proofs.FirstOrNone.{first_answered}
use Rattle.reader.specs.declared.Asked.TheVariants.{Proper}
use Rattle.reader.specs.Windows.{oriented, cut}
use Rattle.reader.specs.CutFrom.{CutFrom}
use Rattle.reader.specs.Reads.{ends_agree, read_as, read_of}
use Rattle.reader.specs.ReadsExactly.{gave_block}
use Rattle.reader.proofs.Windows.{length-oriented, bits_oriented, cut-oriented}
use Rattle.reader.proofs.Ends.{ends_differ}
use Rattle.reader.proofs.Steps.{read_as_lem, room_refused, ends_refused, turn_refused}
use Rattle.reader.proofs.CutReads.{formed_code, cut_once}
use Rattle.reader.proofs.Exact.{cut_read}
use Rattle.demands.specs.Demand3.{SomeProper, Wrote, refused_with, Demand3}
use Rattle.demands.proofs.Wrote.{some_first, wrote-proper, wrote_formed, wrote-scrambling, wrote-shaping, wrote-user_bits}
use Rattle.demands.proofs.ShortFromLong.{changed_ends}
use Rattle.demands.proofs.LongFromShort.{rounds_agree, rounds_divisible, rounds_no_turn}

-- encode answers with the first proper pair and writes its telegram
encodes : (format : Format) (u out : List ℕ) → SomeProper format u → (numbers_of format).n ≤ length out
    → (B : ℕ) × (esb : ℕ) × FirstProper format u B esb × (encode_of u out ≡ wrote_pair format u out B esb)
encodes format u out s room =
    let f = some_first format u s in
    (f.0, f.1, f.2, first_answered format u out (record { bits = s.bits; size = s.size; room = room }) f.0 f.1 f.2)

-- ---- windows of n + r bits

-- an undamaged window is cut from a proper telegram
cut_from : (format : Format) (u : List ℕ) (B esb : ℕ) (b : List ℕ) → Wrote format u B esb b → (t : ℕ) → t < (numbers_of format).n → (flipped : Bool)
    → CutFrom Proper format (cut (window_bits (numbers_of format)) t flipped b) B esb t flipped u
cut_from format u B esb b wrote t below flipped =
    record {
      telegram = b;
      as_asked = wrote-proper format u B esb b wrote;
      scrambling = wrote-scrambling format u B esb b wrote;
      shaping = wrote-shaping format u B esb b wrote;
      user_bits = wrote-user_bits format u B esb b wrote;
      turn = below;
      window = refl;
    }

-- so it reads back
reads_back_lem : (format : Format) (u : List ℕ) (B esb : ℕ) (b : List ℕ) → Wrote format u B esb b
    → (t : ℕ) → t < (numbers_of format).n → (flipped : Bool) (out : List ℕ) → (numbers_of format).m ≤ length out
    → read_of (cut (window_bits (numbers_of format)) t flipped b) out ≡ gave_block format B esb t flipped u out
reads_back_lem format u B esb b wrote t below flipped out room =
    cut_read Proper format (cut (window_bits (numbers_of format)) t flipped b) out room B esb t flipped u (cut_from format u B esb b wrote t below flipped)

-- undamaged windows that are the same bits come from one block, turn and orientation
one_block_lem : (format : Format) (u v : List ℕ) (B esb C e : ℕ) (b c : List ℕ) → Wrote format u B esb b → Wrote format v C e c
    → (s t : ℕ) → s < (numbers_of format).n → t < (numbers_of format).n → (f g : Bool)
    → cut (window_bits (numbers_of format)) s f b ≡ cut (window_bits (numbers_of format)) t g c → (u ≡ v) × (s ≡ t) × (f ≡ g)
one_block_lem format u v B esb C e b c wrote other s t p q f g same =
    let second = subst⁻¹ (λ (w : List ℕ). CutFrom Proper format w C e t g v) same (cut_from format v C e c other t q g) in
    let (blocks, scrambling, shaping, turns, ways) = cut_once Proper format _ B C esb e s t f g u v (cut_from format u B esb b wrote s p f) second in
    (blocks, turns, ways)

-- ---- a window of 462 bits of a long telegram

-- with at most 14 bits changed its ends do not agree
short_ends : (b : List ℕ) → length b ≡ 1023 → T (all_bits b) → T (not_repeating Long b) → (t : ℕ) (flipped : Bool) (w : List ℕ) → length w ≡ 462
    → differences (cut 462 t flipped b) w ≤ 14 → ends_agree short w ≡ false
short_ends b all bits apart t flipped w size few = ends_differ short w (changed_ends b all apart bits t flipped w size few)

-- so it is refused
short_from_long_lem : (u : List ℕ) (B esb : ℕ) (b : List ℕ) → Wrote Long u B esb b → (t : ℕ) → t < long.n → (flipped : Bool)
    → (w : List ℕ) → T (all_bits w) → length w ≡ 462 → differences (cut 462 t flipped b) w ≤ 14
    → (out : List ℕ)
    → (length out < short.m → read_of w out ≡ refused_with OutputShort out) × (short.m ≤ length out → read_of w out ≡ refused_with EndsDiffer out)
short_from_long_lem u B esb b wrote t below flipped w bits size few out =
    let h = parts long b (wrote_formed Long u B esb b wrote) in
    let apart = (proper_parts Long b (wrote-proper Long u B esb b wrote)).no_repeats in
    let fits = read_as_lem Proper Short w out size in
    let are_bits = is_true (all_bits w) bits in (
      λ less. fits ∙ room_refused Proper Short w out size are_bits less,
      λ room. fits ∙ ends_refused Proper Short w out size are_bits room (short_ends b h.size h.bits apart t flipped w size few),
    )

-- ---- a window of 1100 bits of a short telegram

-- it is refused
long_from_short_lem : (u : List ℕ) (B esb : ℕ) (b : List ℕ) → Wrote Short u B esb b → (t : ℕ) → t < short.n → (flipped : Bool)
    → (out : List ℕ)
    → (length out < long.m → read_of (cut 1100 t flipped b) out ≡ refused_with OutputShort out)
    × (long.m ≤ length out → read_of (cut 1100 t flipped b) out ≡ refused_with NoTurn out)
long_from_short_lem u B esb b wrote t below flipped out =
    let h = parts short b (wrote_formed Short u B esb b wrote) in
    let x = oriented flipped b in
    let w = around 1100 t x in
    let size : length x ≡ 341 = length-oriented flipped b ∙ h.size in
    let bits = bits_oriented flipped b h.bits in
    let some : 0 < length b = omega (arith, h.size) in
    let code = formed_code Short flipped b (wrote_formed Short u B esb b wrote) in
    let are_bits = is_true (all_bits w) (all_bits-around 1100 t x bits) in
    let fits : read_of (cut 1100 t flipped b) out ≡ read_as Proper Long w out =
    ap (λ (l : List ℕ). read_of l out) (cut-oriented 1100 t flipped b some) ∙ read_as_lem Proper Long w out (length-around 1100 t x) in (
      λ less. fits ∙ room_refused Proper Long w out (length-around 1100 t x) are_bits less,
      λ room. fits ∙ turn_refused Proper Long w out (length-around 1100 t x) are_bits room (rounds_agree x t bits size below code) (rounds_divisible x t bits size below code)
          (rounds_no_turn x t bits size below code),
    )

-- ---- all of it

pub demand3 : Demand3
demand3 =
    record {
      encodes = encodes;
      reads_back = reads_back_lem;
      one_block = one_block_lem;
      short_from_long = short_from_long_lem;
      long_from_short = long_from_short_lem;
    }
