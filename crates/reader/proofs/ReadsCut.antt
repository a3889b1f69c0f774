-- A window that is accepted is cut from a telegram that is as asked, going round, at the turn and the way up that it tells. Assumes nothing.
use mathlib.Core.Path.{◌≡◌, refl, sym, ap, ◌∙◌}
use mathlib.Core.List.{List}
use Prim.Native.Nat.{ℕ, ◌≤◌, ◌<◌}
use native.Mathlib.Omega.{arith}
use lib.Dec.{T}
use lib.ListN.{length, take}
use lib.Seq.{length-take-le}
use Rattle.bits.specs.Bits.{all_bits, around}
use Rattle.bits.proofs.AllBits.{all_bits-take}
use Rattle.bits.proofs.Equal.{same_true}
use Rattle.bits.proofs.Tests.{holds}
use Rattle.formats.specs.declared.format.Format.{Format}
use Rattle.formats.specs.Numbers.{numbers_of, window_bits, g_of, fg_of}
use Rattle.formats.proofs.Sizes.{sizes_of}
use Rattle.cyclic.specs.Remainder.{remainder}
use Rattle.cyclic.specs.Check.{g_padded, divisible}
use Rattle.cyclic.proofs.Laws.{zeros, reads_turned}
use Rattle.cyclic.proofs.Formats.{facts_of}
use Rattle.telegrams.specs.Telegram.{control}
use Rattle.telegrams.specs.Fields.{control_of, all_words}
use Rattle.telegrams.proofs.Checked.{checked-remainder}
use Rattle.telegrams.specs.Worded.{ControlAndCheck}
use Rattle.telegrams.proofs.WellFormed.{with_words, from_parts}
use Rattle.reader.specs.declared.Asked.{Asked}
use Rattle.reader.specs.Windows.{oriented, cut}
use Rattle.reader.specs.Reads.{turn_in, is_flipped, turned_back, telegram_in, reading_of, reading_in, user_bits_in, reads_as}
use Rattle.reader.specs.CutFrom.{CutFrom}
use Rattle.reader.proofs.AsAsked.{asked_tested}
use Rattle.reader.proofs.Ends.{ends_repeat}
use Rattle.reader.proofs.Windows.{oriented_twice, cut-oriented, window_of}
use Rattle.reader.proofs.Accepted.{Placed, placed, reads_passed}
use Rattle.reader.proofs.Turns.{turn-leaves}
use Rattle.reader.proofs.CutReads.{oriented_fg}
use Rattle.reader.proofs.Parts.Found.{length_back, bits_back, length_found, bits_found}

-- a window that passed the tests up to the control bits
module _ (format : Format) (w : List ℕ) (p : Placed format w) where
  -- has the first n bits
  front : (numbers_of format).n ≤ length w
  front = omega (arith, p.size)

  bits : T (all_bits w)
  bits = holds (all_bits w) p.bits

  -- the turn found is below n
  pub below : turn_in (numbers_of format) w < (numbers_of format).n
  below = (turn-leaves (numbers_of format) w p.turn).0

  -- turned back, the first n bits have the remainder g by f*g
  back_code : remainder (fg_of (numbers_of format)) (turned_back (numbers_of format) (turn_in (numbers_of format) w) w) ≡ g_padded (numbers_of format)
  unfolding turned_back divisible
  back_code =
      let F = numbers_of format in
      let v = take F.n w in
      reads_turned F (facts_of format) (turn_in F w) v (all_bits-take F.n w bits) below (length-take-le F.n w front)
      (same_true (remainder (g_of F) v) (zeros 75) p.divided) (sym (turn-leaves F w p.turn).1)

  -- so what was found has the control and the check bits
  pub found-checked : ControlAndCheck (numbers_of format) (telegram_in (numbers_of format) (turn_in (numbers_of format) w) w)
  unfolding telegram_in
  found-checked =
      let F = numbers_of format in
      let A = facts_of format in
      let t = turn_in F w in
      let x = turned_back F t w in
      let b = telegram_in F t w in
      let all = length_found F t w front in
      let are_bits = bits_found F t w bits in
      record {
        size = all;
        bits = are_bits;
        control_is = same_true (control_of F b) control p.controlled;
        check =
            (checked-remainder F A (sizes_of format) b are_bits all).1
            (oriented_fg F A (is_flipped F x) x (bits_back F t w bits) (length_back F t w front) ∙ back_code);
      }

  -- and the window is cut from it
  pub found-window : let F = numbers_of format in
      let t = turn_in F w in
      w ≡ cut (window_bits F) t (is_flipped F (turned_back F t w)) (telegram_in F t w)
  unfolding telegram_in turned_back
  found-window =
      let F = numbers_of format in
      let t = turn_in F w in
      let k = window_bits F in
      let x = turned_back F t w in
      let flipped = is_flipped F x in
      let some : 0 < length (oriented flipped x) = omega (arith, length_found F t w front, below) in
      sym (window_of F.n F.r t w (sizes_of format).r_within (omega (arith, below)) p.size (ends_repeat F w p.ends))
      ∙ sym (cut-oriented k t flipped (oriented flipped x) some ∙ ap (around k t) (oriented_twice flipped x (bits_back F t w bits)))

pub reads_cut : (asked : Asked) (format : Format) (w : List ℕ) → T (reads_as asked format w)
    → let told = reading_in format w in
    CutFrom asked format w told.scrambling told.shaping told.turn told.flipped (user_bits_in format w)
unfolding reading_in reading_of user_bits_in
reads_cut asked format w h =
    let F = numbers_of format in
    let b = telegram_in F (turn_in F w) w in
    let p = (reads_passed asked format w).0 h in
    let q = placed asked format w p in
    let formed = from_parts F b (with_words F b (found-checked format w q) (holds (all_words F.words b) p.worded)) in
    record {
      telegram = b;
      as_asked = (asked_tested asked format b).1 (formed, p.as_asked);
      scrambling = refl;
      shaping = refl;
      user_bits = refl;
      turn = below format w q;
      window = found-window format w q;
    }
