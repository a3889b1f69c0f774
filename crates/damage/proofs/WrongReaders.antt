-- Wrong readers do not refuse bursts: one that does not test the ends misses a change behind the first n bits; one that takes any remainder
-- by g, or divides all but the last of the first n bits, misses a change of the last of them. Assumes nothing.
use Prim.Native.Nat.{ℕ, zero, suc, ◌-◌, ◌≤◌, ◌<◌}
use mathlib.Core.Bool.{Bool, true, false}
use mathlib.Core.Path.{◌≡◌, refl, sym, ap, ◌∙◌}
use mathlib.Core.List.{List, [], ◌∷◌, ◌++◌}
use mathlib.Core.Logic.{⊎_elim}
use native.Mathlib.Decide.{ℕ_discrete}
use native.Mathlib.Omega.{arith}
use lib.Dec.{T, lit<, lit≤}
use lib.ListN.{length, get_or, set, take, drop, replicate, length-set, length-replicate}
use lib.Seq.{take-suc, set_split, get_or-set_same, get_or-set_other}
use Rattle.bits.specs.Bits.{all_bits, around}
use Rattle.bits.proofs.AllBits.{all_bits-cons, all_bits-append, all_bits-take, all_bits-drop, all_bits-get_or}
use Rattle.bits.proofs.Flipped.{get_or-flip}
use Rattle.bits.proofs.Ring.{length-around}
use Rattle.formats.specs.declared.format.Format.TheVariants.{Short}
use Rattle.formats.specs.Numbers.{short, window_bits, g_of}
use Rattle.cyclic.proofs.Laws.{zeros, short_facts}
use Rattle.reader.specs.declared.Asked.{Asked}
use Rattle.reader.specs.declared.Asked.TheVariants.{Proper}
use Rattle.cyclic.specs.Remainder.{remainder}
use Rattle.reader.specs.Windows.{cut}
use Rattle.reader.specs.Reads.{ends_agree}
use Rattle.reader.proofs.Ends.{ends_agree_lem}
use Rattle.witnesses.specs.Pairs.{telegram}
use Rattle.witnesses.proofs.Blocks.{ones-proper}
use Rattle.damage.specs.Bursts.{Changed, burst_limit, Burst, RefusesBursts}
use Rattle.damage.specs.Readers.{Tests, read_with, ends_untested, part_divided, any_remainder, WrongReaders}
use Rattle.damage.proofs.Divided.{divided_front}
use Rattle.damage.proofs.Places.{same-front, same_back}
use Rattle.damage.proofs.Windows.{is_divided, Whole, cut_whole}
use Rattle.damage.proofs.Readers.{neither}

-- ---- one changed bit

-- w with the bit at j changed
abbrev changed_at : ℕ → List ℕ → List ℕ
changed_at j w = set w j (1 - get_or w j 0)

-- no other place is changed
only_there : (j : ℕ) (w : List ℕ) (i : ℕ) → Changed w (changed_at j w) i → i ≡ j
only_there j w i c = go (ℕ_discrete i j)
  where
    go : Dec (i ≡ j) → i ≡ j
    go (yes e) = e
    go (no f) = absurd (c.1 (get_or-set_other w j i (1 - get_or w j 0) 0 f))

single : (j : ℕ) (w : List ℕ) → T (all_bits w) → j < length w → Burst burst_limit w (changed_at j w)
single j w bits inside =
    let x : ℕ = 1 - get_or w j 0 in
    record {
      size = length-set w j x;
      bits = rw (set_split w j x inside)
          (all_bits-append (take j w) (x ∷ drop (suc j) w) (all_bits-take j w bits)
          (all_bits-cons x (drop (suc j) w) (omega arith) (all_bits-drop (suc j) w bits)));
      place = j;
      changed = (inside, λ e. let now = get_or-set_same w j x 0 inside in omega (arith, all_bits-get_or w j bits));
      from = j;
      within = λ i c. let e = only_there j w i c in (omega arith, omega arith);
    }

-- ---- a window of a proper telegram, of the short format

abbrev n : ℕ
n = short.n

-- the last of the first n places
abbrev final : ℕ
final = n - 1

-- cut at turn 0
abbrev window : Bool → List ℕ
window flipped = cut (window_bits short) 0 flipped (telegram Short)

whole : (flipped : Bool) → Whole short (window flipped)
whole flipped = cut_whole Proper Short (telegram Short) (ones-proper Short) 0 (lit< tt) flipped

-- a reader whose two tests hold of the window with the bit at j changed
missed : (tests : Tests) (asked : Asked) (flipped : Bool) (j : ℕ) → j < window_bits short
    → tests.ends short (changed_at j (window flipped)) ≡ true → tests.divided short (changed_at j (window flipped)) ≡ true
    → RefusesBursts (read_with tests asked) → ⊥
missed tests asked flipped j inside e d refuses =
    let w = window flipped in
    let v = changed_at j w in
    let out : List ℕ = replicate short.m 0 in
    let burst = single j w (whole flipped).bits (omega (arith, (whole flipped).size)) in
    let answered = refuses.refuses Proper Short (telegram Short) (ones-proper Short) 0 (lit< tt) flipped v burst out (omega (arith, length-replicate {A = ℕ} short.m 0)) in
    let no = neither tests asked Short v out (burst.size ∙ (whole flipped).size) e d in
    ⊎_elim no.0 no.1 answered.refused

module _ (flipped : Bool) (j : ℕ) where
  -- the first i bits where j is not among them
  front_kept : (i : ℕ) → i ≤ j → take i (changed_at j (window flipped)) ≡ take i (window flipped)
  front_kept i past =
      let w = window flipped in
      same-front w (changed_at j w) (length-set w j (1 - get_or w j 0)) i (λ k below c. let e = only_there j w k c in omega arith)

  -- and those from i on
  back-kept : (i : ℕ) → j < i → drop i (changed_at j (window flipped)) ≡ drop i (window flipped)
  back-kept i before =
      let w = window flipped in
      same_back w (changed_at j w) (length-set w j (1 - get_or w j 0)) i (λ k past c. let e = only_there j w k c in omega arith)

-- ---- the ends are not tested: a change of the first bit of the repeat

ends_untested_lem : (asked : Asked) → RefusesBursts (read_with ends_untested asked) → ⊥
ends_untested_lem asked =
    let w = window false in
    missed ends_untested asked false n (lit< tt) refl
    (is_divided short (take n (changed_at n w)) (ap (remainder (g_of short)) (front_kept false n n (lit≤ tt)) ∙ (whole false).divided))

-- ---- the first n bits are not divided, or not whole: a change of the last of them

-- the ends agree all the same
last_ends : (flipped : Bool) → ends_agree short (changed_at final (window flipped)) ≡ true
last_ends flipped =
    ends_agree_lem short (changed_at final (window flipped))
    (back-kept flipped final n (lit< tt) ∙ (whole flipped).ends ∙ sym (front_kept flipped final short.r (lit≤ tt)))

any_remainder_lem : (asked : Asked) → RefusesBursts (read_with any_remainder asked) → ⊥
any_remainder_lem asked = missed any_remainder asked false final (lit< tt) (last_ends false) refl

-- upright or flipped, the last of the first n bits of a window is 0
last_is_0 : (flipped : Bool) × (get_or (window flipped) final 0 ≡ 0)
unfolding cut
last_is_0 = go (get_or (around (window_bits short) 0 (telegram Short)) final 0) refl
  where
    go : (x : ℕ) → get_or (around (window_bits short) 0 (telegram Short)) final 0 ≡ x → (flipped : Bool) × (get_or (window flipped) final 0 ≡ 0)
    go zero e = (false, e)
    go (suc x) e =
        let inside : final < length (around (window_bits short) 0 (telegram Short)) = omega (arith, length-around (window_bits short) 0 (telegram Short)) in
        (true, get_or-flip (around (window_bits short) 0 (telegram Short)) final inside ∙ ap (λ (y : ℕ). 1 - y) e ∙ omega arith)

-- and g divides the others alone
others_divided : (flipped : Bool) → get_or (window flipped) final 0 ≡ 0 → remainder (g_of short) (take final (window flipped)) ≡ zeros 75
others_divided flipped last =
    let w = window flipped in
    let inside : final < length w = omega (arith, (whole flipped).size) in
    let parts : take n w ≡ take final w ++ zeros 1 =
    take-suc w final 0 inside ∙ ap (λ (x : ℕ). take final w ++ (x ∷ [])) last in
    divided_front short short_facts 1 (take final w) (all_bits-take final w (whole flipped).bits) (ap (remainder (g_of short)) (sym parts) ∙ (whole flipped).divided)

part_divided_lem : (asked : Asked) → RefusesBursts (read_with part_divided asked) → ⊥
part_divided_lem asked =
    let (flipped, last) = last_is_0 in
    let v = changed_at final (window flipped) in
    missed part_divided asked flipped final (lit< tt) (last_ends flipped)
    (is_divided short (take final v) (ap (remainder (g_of short)) (front_kept flipped final final (lit≤ tt)) ∙ others_divided flipped last))

pub wrong_readers : WrongReaders
wrong_readers = record { ends_untested_not = ends_untested_lem; part_divided_not = part_divided_lem; any_remainder_not = any_remainder_lem }
