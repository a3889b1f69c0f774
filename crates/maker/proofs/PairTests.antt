-- What the tests of a block, a pair and an output answer, row by row of their table, and what the answer tells (document 02, No. 9 and
-- No. 11). Assumes nothing.
use mathlib.Core.Path.{◌≡◌, refl, sym, subst}
use mathlib.Core.Bool.{true, false, not}
use mathlib.Core.List.{List}
use Prim.Native.Nat.{ℕ, ◌≤◌, ◌<◌}
use borrow.Author.Tests.{not-false, eqb-true, leb-true, le-leb, lt-leb, eq-eqb, ne_eqb}
use lib.Dec.{eqb, leb}
use lib.ListN.{length}
use Rattle.bits.specs.Bits.{all_bits}
use Rattle.bits.proofs.Tests.{is_true, holds, clash}
use Rattle.formats.specs.declared.format.Format.{Format}
use Rattle.formats.specs.Numbers.{Numbers, numbers_of}
use Rattle.formats.proofs.Fits.{picks, blocks-apart}
use Rattle.refusals.specs.declared.Refusal.{Refusal}
use Rattle.refusals.specs.declared.Refusal.TheVariants.{Length, NotBit, PairTooLarge, OutputShort}
use Rattle.refusals.specs.Table.{Verdict, refused, accepted, verdict}
use Rattle.refusals.proofs.Table.{Decides, passed, failed, all_passed, NoRow, accepted_no_row}
use Rattle.telegrams.specs.Telegram.{is_pair}
use Rattle.telegrams.proofs.IsPair.{pair_below}
use Rattle.maker.specs.Making.{format_of}
use Rattle.maker.specs.Makes.{InOrder}
use Rattle.maker.specs.PairTests.{pair_table, tested_as, tested_of}
use Rattle.std.specs.Prelude.{Ok, Err}

-- ---- the rows

module _ (format : Format) (u : List ℕ) (B esb room : ℕ) where
  -- the format is that which the length picks
  decided : (v : Verdict Refusal) → format ≡ format_of u → Decides (pair_table format room u B esb) v → tested_as format v ≡ tested_of u B esb room
  unfolding tested_of
  decided v e d = rw (← e, d.verdict_is) refl

  -- the length is not the format's
  pub length_refused : format ≡ format_of u → (length u ≡ (numbers_of format).m → ⊥) → Err Length ≡ tested_of u B esb room
  unfolding pair_table
  length_refused e h = decided (refused Length) e (failed (ne_eqb (length u) (numbers_of format).m h))

  module _ (size : length u ≡ (numbers_of format).m) where
    -- it is, so the length picks it
    pub picked : format ≡ format_of u
    picked = sym (picks (λ (F : Numbers). F.m) blocks-apart format (length u) size)

    sized : eqb (length u) (numbers_of format).m ≡ true
    sized = eq-eqb (length u) (numbers_of format).m size

    -- a byte other than 0 or 1
    pub bits_refused : all_bits u ≡ false → Err NotBit ≡ tested_of u B esb room
    unfolding pair_table
    bits_refused e = decided (refused NotBit) picked (passed sized (failed e))

    module _ (bits : all_bits u ≡ true) where
      -- B or esb too large
      pub pair_refused : is_pair B esb ≡ false → Err PairTooLarge ≡ tested_of u B esb room
      unfolding pair_table
      pair_refused e = decided (refused PairTooLarge) picked (passed sized (passed bits (failed e)))

      module _ (pair : is_pair B esb ≡ true) where
        -- the output is too short
        pub room_refused : room < (numbers_of format).n → Err OutputShort ≡ tested_of u B esb room
        unfolding pair_table
        room_refused h =
            decided (refused OutputShort) picked (passed sized (passed bits (passed pair (failed (lt-leb (numbers_of format).n room h)))))

        all_pass : (numbers_of format).n ≤ room → Decides (pair_table format room u B esb) accepted
        unfolding pair_table
        all_pass h = passed sized (passed bits (passed pair (passed (le-leb (numbers_of format).n room h) all_passed)))

        -- all is in order
        pub tests_clean : (numbers_of format).n ≤ room → Ok format ≡ tested_of u B esb room
        tests_clean h = decided accepted picked (all_pass h)

-- ---- what an answer tells

module _ (u : List ℕ) (B esb room : ℕ) where
  pub tested_refused : (r : Refusal) → tested_of u B esb room ≡ Err r → verdict (pair_table (format_of u) room u B esb) ≡ refused r
  unfolding tested_of
  tested_refused r e = go (verdict (pair_table (format_of u) room u B esb)) e
    where
      go : (v : Verdict Refusal) → tested_as (format_of u) v ≡ Err r → v ≡ refused r
      go (refused q) e = cc
      go accepted e = clash cc

  pub tested_clean : (format : Format) → tested_of u B esb room ≡ Ok format
      → (format_of u ≡ format) × (verdict (pair_table (format_of u) room u B esb) ≡ accepted)
  unfolding tested_of
  tested_clean format e = go (verdict (pair_table (format_of u) room u B esb)) e
    where
      go : (v : Verdict Refusal) → tested_as (format_of u) v ≡ Ok format → (format_of u ≡ format) × (v ≡ accepted)
      go (refused q) e = clash cc
      go accepted e = (cc, refl)

-- ---- all is in order exactly where no row applies

module _ (format : Format) (u : List ℕ) (B esb : ℕ) (out : List ℕ) where
  pub rows_in_order : let F = numbers_of format in
      not (eqb (length u) F.m) ≡ false → not (all_bits u) ≡ false → not (is_pair B esb) ≡ false → not (leb F.n (length out)) ≡ false
      → InOrder format u B esb out
  rows_in_order size bits pair room =
      let below = (pair_below B esb).0 (holds (is_pair B esb) (not-false _ pair)) in
      record {
        size = eqb-true (length u) (numbers_of format).m (not-false _ size);
        bits = holds (all_bits u) (not-false _ bits);
        scrambling = below.0;
        shaping = below.1;
        room = leb-true (numbers_of format).n (length out) (not-false _ room);
      }

  pub accepted_in_order : verdict (pair_table format (length out) u B esb) ≡ accepted → InOrder format u B esb out
  unfolding pair_table NoRow
  accepted_in_order e =
      let (size, (bits, (pair, (room, end)))) = accepted_no_row (pair_table format (length out) u B esb) e in
      rows_in_order size bits pair room

  pub in_order_accepted : InOrder format u B esb out → verdict (pair_table format (length out) u B esb) ≡ accepted
  in_order_accepted h =
      (all_pass format u B esb (length out) h.size (is_true (all_bits u) h.bits)
      (is_true (is_pair B esb) ((pair_below B esb).1 (h.scrambling, h.shaping))) h.room).verdict_is

-- the format that the tests answer with is one for which all is in order
pub clean_in_order : (format : Format) (u : List ℕ) (B esb : ℕ) (out : List ℕ) → tested_of u B esb (length out) ≡ Ok format → InOrder format u B esb out
clean_in_order format u B esb out e =
    let (is, accepts) = tested_clean u B esb (length out) format e in
    subst (λ (f : Format). InOrder f u B esb out) is (accepted_in_order (format_of u) u B esb out accepts)
