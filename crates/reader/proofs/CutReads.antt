-- A window that is cut from a telegram that is as asked, going round, upright or flipped, is accepted, and tells what that telegram carries.
-- Assumes nothing.
use mathlib.Core.Path.{◌≡◌, refl, sym, ap, ◌∙◌}
use mathlib.Core.Bool.{Bool, true, false}
use mathlib.Core.List.{List}
use Prim.Native.Nat.{ℕ, ◌+◌, ◌-◌, ◌<◌}
use native.Mathlib.Omega.{arith}
use lib.Dec.{T, eqb}
use lib.ListN.{length, get_or, take, drop}
use lib.Seq.{get_or-drop, get_or-take}
use Rattle.bits.specs.Bits.{all_bits, same, around}
use Rattle.bits.proofs.Equal.{equal_same}
use Rattle.bits.proofs.Flipped.{get_or-flip}
use Rattle.bits.proofs.Ring.{length-around, all_bits-around}
use Rattle.bits.proofs.Tests.{is_true}
use Rattle.formats.specs.declared.format.Format.{Format}
use Rattle.formats.specs.Numbers.{Numbers, numbers_of, window_bits, f_of, g_of, fg_of}
use Rattle.formats.proofs.Sizes.{Sizes, sizes_of}
use Rattle.refusals.specs.Table.{verdict}
use Rattle.cyclic.specs.Remainder.{remainder}
use Rattle.cyclic.specs.Check.{g_padded, turned, turn_of, divisible}
use Rattle.cyclic.proofs.Laws.{Facts, zeros, turned_back_lem, turned_reads, flip_fg, turn_of-turn}
use Rattle.cyclic.proofs.Formats.{facts_of}
use Rattle.telegrams.specs.Telegram.{control}
use Rattle.telegrams.specs.Fields.{control_of, all_words, user_bits_of, well_formed}
use Rattle.telegrams.proofs.Checked.{checked-remainder}
use Rattle.telegrams.specs.Worded.{ControlAndCheck}
use Rattle.telegrams.proofs.WellFormed.{parts, but_words}
use Rattle.reader.specs.declared.Asked.{Asked}
use Rattle.reader.specs.declared.Reading.{Reading}
use Rattle.reader.specs.Windows.{oriented, cut}
use Rattle.reader.specs.Reads.{ends_agree, turn_found, is_turn, turn_in, is_flipped, turned_back, telegram_in, reading_of, reading_in, user_bits_in, asked_table, reads_as}
use Rattle.reader.specs.CutFrom.{CutFrom}
use Rattle.reader.proofs.Ends.{ends_agree_lem}
use Rattle.reader.proofs.Windows.{length-oriented, bits_oriented, oriented_twice, cut-oriented, ring-front, ring_ends}
use Rattle.reader.proofs.AsAsked.{asked_tested}
use Rattle.reader.proofs.Accepted.{reads_passed}
use Rattle.std.specs.Prelude.{Some}

-- ---- the flip

-- to flip or not changes no remainder by f*g
pub oriented_fg : (F : Numbers) → Facts F → (flipped : Bool) (b : List ℕ) → T (all_bits b) → length b ≡ F.n
    → remainder (fg_of F) (oriented flipped b) ≡ remainder (fg_of F) b
oriented_fg F A true b bits size = flip_fg F A b bits size
oriented_fg F A false b bits size = refl

-- so a telegram with the check bits leaves g by f*g, upright or flipped
checked_code : (format : Format) (flipped : Bool) (b : List ℕ) → ControlAndCheck (numbers_of format) b
    → remainder (fg_of (numbers_of format)) (oriented flipped b) ≡ g_padded (numbers_of format)
checked_code format flipped b h =
    let F = numbers_of format in
    let A = facts_of format in
    oriented_fg F A flipped b h.bits h.size ∙ (checked-remainder F A (sizes_of format) b h.bits h.size).0 h.check

pub formed_code : (format : Format) (flipped : Bool) (b : List ℕ) → T (well_formed (numbers_of format) b)
    → remainder (fg_of (numbers_of format)) (oriented flipped b) ≡ g_padded (numbers_of format)
formed_code format flipped b formed = let F = numbers_of format in checked_code format flipped b (but_words F b (parts F b formed))

-- b109 of a telegram whose control bits are 0, 0, 1
control-first : (F : Numbers) (b : List ℕ) → control_of F b ≡ control → get_or b (F.n - 110) 0 ≡ 0
unfolding control_of
control-first F b e =
    let i = F.n - 110 in
    let place : i + 0 ≡ i = omega arith in
    ap (λ (x : ℕ). get_or b x 0) (sym place) ∙ sym (get_or-drop i b 0 0) ∙ sym (get_or-take 3 (drop i b) 0 0 (omega arith))
    ∙ ap (λ (l : List ℕ). get_or l 0 0) e

-- tells whether it is flipped
flip_told : (F : Numbers) → Sizes F → (flipped : Bool) (b : List ℕ) → length b ≡ F.n → control_of F b ≡ control
    → is_flipped F (oriented flipped b) ≡ flipped
unfolding is_flipped
flip_told F S true b size e =
    let inside : F.n - 110 < length b = omega (arith, S.n_is) in
    ap (λ (x : ℕ). eqb x 1) (get_or-flip b (F.n - 110) inside ∙ ap (λ (x : ℕ). 1 - x) (control-first F b e))
flip_told F S false b size e = ap (λ (x : ℕ). eqb x 1) (control-first F b e)

-- ---- the window cut at turn t, of a ring x of n bits with the remainder g by f*g

module _ (format : Format) (x : List ℕ) (t : ℕ) (bits : T (all_bits x)) (size : length x ≡ (numbers_of format).n) (below : t < (numbers_of format).n)
    (code : remainder (fg_of (numbers_of format)) x ≡ g_padded (numbers_of format)) where
  -- its first n bits
  ring-turned : take (numbers_of format).n (around (window_bits (numbers_of format)) t x) ≡ turned t x
  ring-turned = ring-front (numbers_of format).n (numbers_of format).r t x size (omega arith)

  -- its ends agree
  ring-agrees : ends_agree (numbers_of format) (around (window_bits (numbers_of format)) t x) ≡ true
  ring-agrees =
      let F = numbers_of format in
      ends_agree_lem F (around (window_bits F) t x) (ring_ends F.n F.r t x size)

  -- g divides its first n bits
  ring-divisible : divisible (numbers_of format) (take (numbers_of format).n (around (window_bits (numbers_of format)) t x)) ≡ true
  unfolding divisible
  ring-divisible =
      let F = numbers_of format in
      let w = around (window_bits F) t x in
      equal_same (remainder (g_of F) (take F.n w)) (zeros 75)
      (ap (remainder (g_of F)) ring-turned ∙ (turned_reads F (facts_of format) t x bits below size code).0)

  -- and their remainder by f is that of the turn t
  ring-turn : turn_found (numbers_of format) (around (window_bits (numbers_of format)) t x) ≡ Some t
  unfolding turn_found
  ring-turn =
      let F = numbers_of format in
      ap (λ (v : List ℕ). turn_of F (remainder (f_of F) v)) ring-turned
      ∙ ap (turn_of F) (turned_reads F (facts_of format) t x bits below size code).1 ∙ turn_of-turn F (facts_of format) t below

  -- turned back it is the ring again
  ring-back : turned_back (numbers_of format) t (around (window_bits (numbers_of format)) t x) ≡ x
  unfolding turned_back
  ring-back =
      let round : (numbers_of format).n - t + t ≡ length x = omega arith in
      ap (turned ((numbers_of format).n - t)) ring-turned ∙ turned_back_lem ((numbers_of format).n - t) t x round

-- ---- the window cut from a telegram with the control and the check bits

module _ (format : Format) (b : List ℕ) (t : ℕ) (flipped : Bool) (h : ControlAndCheck (numbers_of format) b) (below : t < (numbers_of format).n) where
  -- where and which way up it is found, and which telegram
  pub record Found (w : List ℕ) : Type 0 where
    pub size : length w ≡ window_bits (numbers_of format)
    pub bits : all_bits w ≡ true
    pub ends : ends_agree (numbers_of format) w ≡ true
    pub divided : divisible (numbers_of format) (take (numbers_of format).n w) ≡ true
    pub turn : turn_found (numbers_of format) w ≡ Some t
    pub flip : is_flipped (numbers_of format) (turned_back (numbers_of format) t w) ≡ flipped
    pub telegram : telegram_in (numbers_of format) t w ≡ b

  ring-found : Found (around (window_bits (numbers_of format)) t (oriented flipped b))
  unfolding telegram_in
  ring-found =
      let F = numbers_of format in
      let x = oriented flipped b in
      let w = around (window_bits F) t x in
      let size : length x ≡ F.n = length-oriented flipped b ∙ h.size in
      let bits = bits_oriented flipped b h.bits in
      let code = checked_code format flipped b h in
      let back = ring-back format x t bits size below code in
      let told : is_flipped F x ≡ flipped = flip_told F (sizes_of format) flipped b h.size h.control_is in
      record {
        size = length-around (window_bits F) t x;
        bits = is_true (all_bits w) (all_bits-around (window_bits F) t x bits);
        ends = ring-agrees format x t bits size below code;
        divided = ring-divisible format x t bits size below code;
        turn = ring-turn format x t bits size below code;
        flip = rw (back, told) refl;
        telegram = rw (back, told) (oriented_twice flipped b h.bits);
      }

  pub cut-found : (w : List ℕ) → w ≡ cut (window_bits (numbers_of format)) t flipped b → Found w
  cut-found w e =
      let some : 0 < length b = omega (arith, h.size, (sizes_of format).n_is) in
      rw (e ∙ cut-oriented (window_bits (numbers_of format)) t flipped b some) ring-found

-- ---- the window cut from a telegram that is as asked

-- the window w is accepted as the format's, and tells B, esb, turn and way up, and the user bits u
pub record Tells (asked : Asked) (format : Format) (w : List ℕ) (B esb t : ℕ) (flipped : Bool) (u : List ℕ) : Type 0 where
  pub accepted : T (reads_as asked format w)
  pub reading : reading_in format w ≡ record { format = format; scrambling = B; shaping = esb; turn = t; flipped = flipped }
  pub user_bits : user_bits_in format w ≡ u

module _ (asked : Asked) (format : Format) (w : List ℕ) where
  pub cut-tells : (B esb t : ℕ) (flipped : Bool) (u : List ℕ) → CutFrom asked format w B esb t flipped u → Tells asked format w B esb t flipped u
  unfolding reading_in reading_of user_bits_in turn_in
  cut-tells B esb t flipped u c =
      let F = numbers_of format in
      let b = c.telegram in
      let (formed, passes) = (asked_tested asked format b).0 c.as_asked in
      let h = parts F b formed in
      let found = cut-found format b t flipped (but_words F b h) c.turn w c.window in
      let telegram : telegram_in F (turn_in F w) w ≡ b = rw found.turn found.telegram in
      record {
        accepted =
            (reads_passed asked format w).1
            (record {
              size = found.size;
              bits = found.bits;
              ends = found.ends;
              divided = found.divided;
              turn = ap is_turn found.turn;
              controlled = ap (λ (l : List ℕ). same (control_of F l) control) telegram ∙ equal_same (control_of F b) control h.control_is;
              worded = ap (all_words F.words) telegram ∙ is_true (all_words F.words b) h.words_in_table;
              as_asked = ap (λ (l : List ℕ). verdict (asked_table asked format l)) telegram ∙ passes;
            });
        reading = rw (found.turn, found.flip, found.telegram, ← c.scrambling, ← c.shaping) refl;
        user_bits = ap (user_bits_of F) telegram ∙ c.user_bits;
      }

  -- so one window is cut from telegrams with one pair and one block only, at one turn and one way up
  pub cut_once : (B C d e s t : ℕ) (f g : Bool) (u v : List ℕ) → CutFrom asked format w B d s f u → CutFrom asked format w C e t g v
      → (u ≡ v) × (B ≡ C) × (d ≡ e) × (s ≡ t) × (f ≡ g)
  cut_once B C d e s t f g u v c c' =
      let one = cut-tells B d s f u c in
      let other = cut-tells C e t g v c' in
      let readings = sym one.reading ∙ other.reading in (
        sym one.user_bits ∙ other.user_bits,
        ap (λ (r : Reading). r.scrambling) readings,
        ap (λ (r : Reading). r.shaping) readings,
        ap (λ (r : Reading). r.turn) readings,
        ap (λ (r : Reading). r.flipped) readings,
      )
