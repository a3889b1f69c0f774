-- A burst of 76 bits that is refused neither with 5 nor with 6: g itself, added to the window behind the first r bits and before the
-- repeat. Assumes nothing.
use Prim.Native.Nat.{ℕ, suc, ◌+◌, ◌-◌, ◌%◌, ◌≤◌, ◌<◌}
use mathlib.Core.Path.{◌≡◌, sym, ap, ap₂, ◌∙◌}
use mathlib.Core.List.{List, ◌∷◌, ◌++◌, append_assoc}
use native.Mathlib.Omega.{arith}
use lib.Dec.{lit≤}
use lib.ListN.{length, get_or, take, drop, length-append, length-drop, replicate-append-replicate}
use lib.Seq.{take_at, drop_at, get_or-append_seam}
use Rattle.bits.proofs.AllBits.{all_bits-get_or, all_bits-append, all_bits-drop}
use Rattle.formats.specs.declared.format.Format.{Format}
use Rattle.formats.specs.declared.format.Format.TheVariants.{Long, Short}
use Rattle.formats.specs.Polynomial.{sum}
use Rattle.formats.specs.Numbers.{Numbers, numbers_of, window_bits, g_of}
use Rattle.cyclic.proofs.Lists.{Bits, zeros, length-zeros, bits_zeros, bits_sum}
use Rattle.cyclic.proofs.Space.{pow, pow-nil, zeros-front}
use Rattle.cyclic.proofs.Registers.{Reg, zeros_right, leading, remainder_is, one}
use Rattle.cyclic.proofs.Quotients.{rem_itself}
use Rattle.cyclic.proofs.Facts.{Facts}
use Rattle.cyclic.proofs.Cyclic.{mod_g}
use Rattle.cyclic.proofs.Formats.{facts_of}
use Rattle.reader.specs.declared.Asked.{Asked}
use Rattle.reader.specs.Windows.{cut}
use Rattle.damage.specs.Bursts.{burst_limit, Burst, MissesBursts}
use Rattle.damage.specs.Readers.{read_with, the_tests}
use Rattle.damage.proofs.Sums.{sum_drop, get_or-sum}
use Rattle.damage.proofs.Divided.{shifted}
use Rattle.damage.proofs.Places.{changed_after, changed_before}
use Rattle.damage.proofs.Windows.{Whole, cut_whole}
use Rattle.damage.proofs.Unseen.{Unseen, to_window, added, fits, added_size, first-kept, unseen}

-- g lies between the ends
room_between : (format : Format) → (numbers_of format).r + 76 ≤ (numbers_of format).n
room_between Long = lit≤ tt
room_between Short = lit≤ tt

module _ (F : Numbers) (A : Facts F) (between : F.r + 76 ≤ F.n) where
  -- g behind r zeros
  abbrev start : List ℕ
  start = zeros F.r ++ g_of F

  -- the zeros behind it, up to the repeat
  abbrev gap : ℕ
  gap = F.n - (F.r + 76)

  -- what is added to the first n bits
  abbrev pub g_between : List ℕ
  g_between = start ++ zeros gap

  length-start : length start ≡ F.r + 76
  length-start = length-append (zeros F.r) (g_of F) ∙ ap₂ ◌+◌ (length-zeros F.r) A.g_degree.size

  bits_start : Bits start
  bits_start = all_bits-append (zeros F.r) (g_of F) (bits_zeros F.r) A.g_degree.bits

  bits_between : Bits g_between
  bits_between = all_bits-append start (zeros gap) bits_start (bits_zeros gap)

  -- its first r are 0, g divides it
  pub g_unseen : Unseen F g_between
  g_unseen =
      let M = mod_g F A in
      record {
        bits = bits_between;
        size = length-append start (zeros gap) ∙ omega (arith, length-start, length-zeros gap);
        divided =
            remainder_is 74 (g_of F) A.g_degree g_between bits_between
            ∙ ap (λ (r : Reg 75). r.of)
            (shifted F A gap start ∙ ap (pow M gap) (zeros-front M F.r (g_of F) (one 74) ∙ rem_itself 74 (g_of F) A.g_degree) ∙ pow-nil M gap);
        first =
            ap (take F.r) (append_assoc (zeros F.r) (g_of F) (zeros gap))
            ∙ take_at (zeros F.r) (g_of F ++ zeros gap) F.r (length-zeros F.r);
      }

  -- what is added to the window: zeros behind g
  window_is : to_window F g_between ≡ start ++ zeros (gap + F.r)
  window_is = append_assoc start (zeros gap) (zeros F.r) ∙ ap (λ (l : List ℕ). start ++ l) (replicate-append-replicate gap F.r 0)

  -- what stands at r
  at-r : get_or (to_window F g_between) F.r 0 ≡ 1
  at-r =
      let rest = drop 1 (g_of F) ++ zeros (gap + F.r) in
      ap (λ (l : List ℕ). get_or l F.r 0)
      (window_is ∙ append_assoc (zeros F.r) (g_of F) (zeros (gap + F.r))
      ∙ ap (λ (l : List ℕ). zeros F.r ++ (l ++ zeros (gap + F.r))) (leading A.g_degree))
      ∙ ap (λ (i : ℕ). get_or (zeros F.r ++ (1 ∷ rest)) i 0) (sym (length-zeros F.r)) ∙ get_or-append_seam (zeros F.r) 1 rest 0

  -- the bits of the window behind g are as they were
  behind_kept : (w : List ℕ) → Whole F w → length w ≡ length (to_window F g_between) → drop (F.r + 76) (added F g_between w) ≡ drop (F.r + 76) w
  behind_kept w whole same =
      let i : ℕ = F.r + 76 in
      let size : length (drop i w) ≡ gap + F.r = length-drop i w ∙ omega (arith, whole.size, between) in
      sum_drop i w (to_window F g_between) same
      ∙ ap (sum (drop i w)) (ap (drop i) window_is ∙ drop_at start (zeros (gap + F.r)) i length-start)
      ∙ zeros_right (drop i w) (gap + F.r) (all_bits-drop i w whole.bits) size

-- of a format
abbrev between_of : Format → List ℕ
between_of format = g_between (numbers_of format) (facts_of format) (room_between format)

abbrev unseen_of : (format : Format) → Unseen (numbers_of format) (between_of format)
unseen_of format = g_unseen (numbers_of format) (facts_of format) (room_between format)

-- it makes a burst of 76 bits
longer_burst : (format : Format) (w : List ℕ) → Whole (numbers_of format) w → Burst (suc burst_limit) w (added (numbers_of format) (between_of format) w)
longer_burst format w whole =
    let F = numbers_of format in
    let A = facts_of format in
    let between = room_between format in
    let e = between_of format in
    let u = unseen_of format in
    let inside : F.r < length w = omega (arith, whole.size, between) in
    let same = fits format e u w whole in
    let kept = added_size format e u w whole in
    record {
      size = kept;
      bits = bits_sum w (to_window F e);
      place = F.r;
      changed = (
        inside,
        λ f. let other = get_or-sum w (to_window F e) F.r same inside ∙ ap (λ (x : ℕ). (get_or w F.r 0 + x) % 2) (at-r F A between) in
            omega (arith, all_bits-get_or w F.r whole.bits),
      );
      from = F.r;
      within = λ j c. (
        changed_after w (added F e w) kept F.r (first-kept format e u w whole) j c,
        let near = changed_before w (added F e w) kept (F.r + 76) (behind_kept F A between w whole same) j c in omega arith,
      );
    }

-- ---- what a reader answers that tests the ends and divides as the window calls do

pub misses_bursts : (asked : Asked) → MissesBursts (read_with the_tests asked)
misses_bursts asked =
    record {
      misses = λ of format b h t below flipped.
          let w = cut (window_bits (numbers_of format)) t flipped b in
          let e = between_of format in
          let whole = cut_whole of format b h t below flipped in
          (added (numbers_of format) e w, longer_burst format w whole, unseen format e (unseen_of format) w whole asked);
    }
