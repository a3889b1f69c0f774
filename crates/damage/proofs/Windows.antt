-- Windows cut from a telegram, as damage meets them: the ends repeat each other, and g divides the first n bits. Assumes nothing.
use Prim.Native.Nat.{ℕ, ◌+◌, ◌<◌}
use native.Mathlib.Omega.{arith}
use mathlib.Core.Bool.{Bool, true, false}
use mathlib.Core.Path.{◌≡◌, refl, sym, ap, ◌∙◌}
use mathlib.Core.List.{List}
use lib.Dec.{T}
use lib.ListN.{length, get_or, take, drop}
use lib.Seq.{get_or-take, get_or-drop}
use Rattle.bits.specs.Bits.{all_bits, around}
use Rattle.bits.proofs.Equal.{equal_same, other_same, same_true}
use Rattle.bits.proofs.Ring.{length-around, all_bits-around}
use Rattle.bits.proofs.Tests.{holds}
use Rattle.formats.specs.declared.format.Format.{Format}
use Rattle.formats.specs.declared.format.Format.TheVariants.{Short}
use Rattle.formats.specs.Numbers.{Numbers, long, short, numbers_of, window_bits, g_of, fg_of}
use Rattle.cyclic.specs.Check.{g_padded, divisible}
use Rattle.cyclic.specs.Remainder.{remainder}
use Rattle.cyclic.proofs.Laws.{zeros}
use Rattle.telegrams.proofs.WellFormed.{parts, but_words}
use Rattle.reader.specs.declared.Asked.{Asked}
use Rattle.reader.specs.Windows.{oriented, cut}
use Rattle.reader.specs.CutFrom.{is_asked}
use Rattle.reader.specs.Reads.{turn_found}
use Rattle.reader.proofs.AsAsked.{asked_tested}
use Rattle.reader.proofs.Ends.{ends_repeat}
use Rattle.reader.proofs.Windows.{length-oriented, bits_oriented, cut-oriented}
use Rattle.reader.proofs.CutReads.{formed_code, cut-found}
use Rattle.demands.proofs.LongFromShort.{rounds_agree, rounds_divisible, rounds_no_turn}
use Rattle.std.specs.Prelude.{None}

-- ---- the test that g divides

pub divided_of : (F : Numbers) (v : List ℕ) → divisible F v ≡ true → remainder (g_of F) v ≡ zeros 75
unfolding divisible
divided_of F v e = same_true (remainder (g_of F) v) (zeros 75) e

pub not_divided : (F : Numbers) (v : List ℕ) → (remainder (g_of F) v ≡ zeros 75 → ⊥) → divisible F v ≡ false
unfolding divisible
not_divided F v h = other_same (remainder (g_of F) v) (zeros 75) h

pub is_divided : (F : Numbers) (v : List ℕ) → remainder (g_of F) v ≡ zeros 75 → divisible F v ≡ true
unfolding divisible
is_divided F v e = equal_same (remainder (g_of F) v) (zeros 75) e

-- ---- the window

-- what is used of a window cut from a telegram: the last r bits repeat the first r, and g divides the first n
pub record Whole (F : Numbers) (w : List ℕ) : Type 0 where
  pub size : length w ≡ window_bits F
  pub bits : T (all_bits w)
  pub ends : drop F.n w ≡ take F.r w
  pub divided : remainder (g_of F) (take F.n w) ≡ zeros 75

-- bits whose last r repeat the first r hold the same at i and at n + i
pub repeated : (F : Numbers) (v : List ℕ) → drop F.n v ≡ take F.r v → (i : ℕ) → i < F.r → get_or v (F.n + i) 0 ≡ get_or v i 0
repeated F v e i below = sym (get_or-drop F.n v i 0) ∙ ap (λ (l : List ℕ). get_or l i 0) e ∙ get_or-take F.r v i 0 below

-- a window cut from a telegram that is well-formed, or proper
pub cut_whole : (asked : Asked) (format : Format) (b : List ℕ) → T (is_asked asked format b) → (t : ℕ) → t < (numbers_of format).n → (flipped : Bool)
    → Whole (numbers_of format) (cut (window_bits (numbers_of format)) t flipped b)
cut_whole asked format b h t below flipped =
    let F = numbers_of format in
    let w = cut (window_bits F) t flipped b in
    let found = cut-found format b t flipped (but_words F b (parts F b ((asked_tested asked format b).0 h).0)) below w refl in
    record {
      size = found.size;
      bits = holds (all_bits w) found.bits;
      ends = ends_repeat F w found.ends;
      divided = divided_of F (take F.n w) found.divided;
    }

-- ---- 1,100 bits of a short telegram

-- its ring, upright or flipped, leaves g by the short f*g
record Ring (t : ℕ) (flipped : Bool) (b : List ℕ) : Type 0 where
  bits : T (all_bits (oriented flipped b))
  size : length (oriented flipped b) ≡ short.n
  code : remainder (fg_of short) (oriented flipped b) ≡ g_padded short
  window : cut (window_bits long) t flipped b ≡ around (window_bits long) t (oriented flipped b)

ring_of : (asked : Asked) (b : List ℕ) → T (is_asked asked Short b) → (t : ℕ) (flipped : Bool) → Ring t flipped b
ring_of asked b h t flipped =
    let formed = ((asked_tested asked Short b).0 h).0 in
    let p = parts short b formed in
    record {
      bits = bits_oriented flipped b p.bits;
      size = length-oriented flipped b ∙ p.size;
      code = formed_code Short flipped b formed;
      window = cut-oriented (window_bits long) t flipped b (omega (arith, p.size));
    }

module _ (asked : Asked) (b : List ℕ) (h : T (is_asked asked Short b)) (t : ℕ) (below : t < short.n) (flipped : Bool) where
  -- the ends repeat each other, and the long g divides the first 1,023
  pub rounds_whole : Whole long (cut (window_bits long) t flipped b)
  rounds_whole =
      let x = oriented flipped b in
      let ring = ring_of asked b h t flipped in
      rw ring.window
      (record {
        size = length-around (window_bits long) t x;
        bits = all_bits-around (window_bits long) t x ring.bits;
        ends = ends_repeat long (around (window_bits long) t x) (rounds_agree x t ring.bits ring.size below ring.code);
        divided = divided_of long (take long.n (around (window_bits long) t x)) (rounds_divisible x t ring.bits ring.size below ring.code);
      })

  -- whose remainder by the long f is that of no turn
  pub rounds_turn : turn_found long (cut (window_bits long) t flipped b) ≡ None
  rounds_turn =
      let ring = ring_of asked b h t flipped in
      ap (turn_found long) ring.window ∙ rounds_no_turn (oriented flipped b) t ring.bits ring.size below ring.code
