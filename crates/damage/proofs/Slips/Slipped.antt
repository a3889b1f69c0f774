-- A slip of either kind, bits lost or put in, as the window it leaves: bits of what was sent before the slip, and after it. Assumes nothing.
use Prim.Native.Nat.{ℕ, ◌+◌, ◌-◌, ◌≤◌, ◌<◌}
use mathlib.Core.Bool.{Bool}
use mathlib.Core.Path.{◌≡◌, sym, ap, ◌∙◌}
use mathlib.Core.List.{List, [], ◌++◌}
use mathlib.Core.Logic.{◌⊎◌, inl, inr}
use native.Mathlib.Omega.{arith}
use lib.Dec.{T}
use lib.ListN.{length, take, drop, length-append, length-drop}
use lib.Seq.{drop-append-add, drop-drop, length-take-le}
use Rattle.bits.specs.Bits.{all_bits, around}
use Rattle.bits.proofs.AllBits.{all_bits-nil, all_bits-append, all_bits-take, all_bits-drop}
use Rattle.bits.proofs.Ring.{length-around, all_bits-around, around_period}
use Rattle.reader.specs.Windows.{oriented, cut}
use Rattle.reader.proofs.Windows.{length-oriented, bits_oriented, cut-oriented}
use Rattle.damage.specs.Slips.{Lost, PutIn, Slip}
use Rattle.damage.proofs.Slips.Stretches.{stretch, stretch-append, stretch-take, stretch-around, stretch_repeated}

-- ---- a slip of either kind

-- v is a window of `size` bits: the first bits of x, others, and the bits of x from the place `next` on, which stand in v at s places less than
-- in x, or s places more
pub record Slipped (reach size s : ℕ) (x v : List ℕ) : Type 0 where
  pub first : ℕ
  pub others : List ℕ
  pub next : ℕ
  pub window : v ≡ take first x ++ (others ++ drop next x)
  pub bits : T (all_bits others)
  pub few : length others ≤ s
  pub inside : first ≤ length x
  pub whole : first + (length others + (length x - next)) ≡ size
  pub before : reach ≤ first + s
  pub after : reach + (first + length others) ≤ size + s
  pub apart : (next ≡ first + length others + s) ⊎ (first + length others ≡ next + s)

-- bits were lost
lost_slipped : (reach size s : ℕ) (x v : List ℕ) → s ≤ reach → length x ≡ size + s → Lost reach size s x v → Slipped reach size s x v
lost_slipped reach size s x v small sent lost =
    record {
      first = lost.place;
      others = [];
      next = lost.place + s;
      window = lost.window;
      bits = all_bits-nil;
      few = omega arith;
      inside = omega arith;
      whole = omega arith;
      before = lost.before;
      after = omega arith;
      apart = inl (omega arith);
    }

-- or put in
put_in_slipped : (reach size s : ℕ) (x v : List ℕ) → s ≤ reach → length x ≡ size - s → PutIn reach size s x v → Slipped reach size s x v
put_in_slipped reach size s x v small sent put =
    record {
      first = put.place;
      others = put.values;
      next = put.place;
      window = put.window;
      bits = put.bits;
      few = omega arith;
      inside = omega arith;
      whole = omega arith;
      before = put.before;
      after = omega arith;
      apart = inr (omega arith);
    }

module _ (reach size s : ℕ) (x v : List ℕ) (slip : Slipped reach size s x v) where
  -- v before the slip
  abbrev front : List ℕ
  front = take slip.first x

  -- and from there on
  abbrev back : List ℕ
  back = slip.others ++ drop slip.next x

  -- the place in v where the bits of x go on
  abbrev pub resumed : ℕ
  resumed = slip.first + length slip.others

  length_front : length front ≡ slip.first
  length_front = length-take-le slip.first x slip.inside

  pub length_slipped : length v ≡ size
  length_slipped = rw slip.window (simp (length-append, length_front, length-drop) slip.whole)

  pub bits_slipped : T (all_bits x) → T (all_bits v)
  bits_slipped bits =
      rw slip.window
      (all_bits-append front back (all_bits-take slip.first x bits)
      (all_bits-append slip.others (drop slip.next x) slip.bits (all_bits-drop slip.next x bits)))

  -- bits before the slip
  pub stretch-before : (i j : ℕ) → j + i ≤ slip.first → stretch i j v ≡ stretch i j x
  stretch-before i j within =
      ap (stretch i j) slip.window ∙ stretch-append i j front back (omega (arith, length_front))
      ∙ stretch-take i j slip.first x within slip.inside

  -- and bits after it
  pub stretch_after : (i j : ℕ) → stretch i (slip.first + (length slip.others + j)) v ≡ stretch i (slip.next + j) x
  stretch_after i j =
      let places = length slip.others + j in
      ap (stretch i (slip.first + places)) slip.window
      ∙ ap (λ (k : ℕ). stretch i (k + places) (front ++ back)) (sym length_front)
      ∙ ap (take i) (drop-append-add front back places ∙ drop-append-add slip.others (drop slip.next x) j ∙ drop-drop j slip.next x)

  -- where the last r bits of v repeat the first r: i of these, and what repeats them after the slip
  pub repeat_after : (n r i j : ℕ) → drop n v ≡ take r v → j + i ≤ r → r ≤ size → resumed ≤ n + j
      → stretch i (slip.next + (n + j - resumed)) x ≡ stretch i j v
  repeat_after n r i j e within enough past =
      let place : slip.first + (length slip.others + (n + j - resumed)) ≡ n + j = omega arith in
      sym (stretch_after i (n + j - resumed)) ∙ ap (λ (k : ℕ). stretch i k v) place
      ∙ stretch_repeated n r i j v e within (omega (arith, length_slipped))

-- ---- the bits that were sent: of a telegram, upright or flipped, going round

module _ (b : List ℕ) (sent t : ℕ) (flipped : Bool) (some : 0 < length b) where
  pub stream_is : cut sent t flipped b ≡ around sent t (oriented flipped b)
  stream_is = cut-oriented sent t flipped b some

  pub length_stream : length (cut sent t flipped b) ≡ sent
  length_stream = ap length stream_is ∙ length-around sent t (oriented flipped b)

  pub bits_stream : T (all_bits b) → T (all_bits (cut sent t flipped b))
  bits_stream bits = rw stream_is (all_bits-around sent t (oriented flipped b) (bits_oriented flipped b bits))

  pub stretch_stream : (i j : ℕ) → j + i ≤ sent → stretch i j (cut sent t flipped b) ≡ around i (t + j) (oriented flipped b)
  stretch_stream i j within = ap (stretch i j) stream_is ∙ stretch-around i j sent t (oriented flipped b) within

-- once round the ring
pub once_round : (b : List ℕ) (flipped : Bool) (n : ℕ) → length b ≡ n → (k p : ℕ) → around k (p + n) (oriented flipped b) ≡ around k p (oriented flipped b)
once_round b flipped n size k p =
    let ring = oriented flipped b in
    ap (λ (i : ℕ). around k (p + i) ring) (sym (length-oriented flipped b ∙ size)) ∙ around_period k p ring

-- ---- both

-- what was sent, and the slip
pub record SlippedFrom (reach size s t : ℕ) (flipped : Bool) (b v : List ℕ) : Type 0 where
  pub sent : ℕ
  pub slip : Slipped reach size s (cut sent t flipped b) v

pub slipped_from : (reach size s t : ℕ) (flipped : Bool) (b v : List ℕ) → 0 < length b → s ≤ reach
    → Slip reach size s t flipped b v → SlippedFrom reach size s t flipped b v
slipped_from reach size s t flipped b v held small (inl lost) =
    let x = cut (size + s) t flipped b in
    record { sent = size + s; slip = lost_slipped reach size s x v small (length_stream b (size + s) t flipped held) lost }
slipped_from reach size s t flipped b v held small (inr put) =
    let x = cut (size - s) t flipped b in
    record { sent = size - s; slip = put_in_slipped reach size s x v small (length_stream b (size - s) t flipped held) put }
