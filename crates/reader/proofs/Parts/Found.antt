-- The telegram of a window at a turn, and the buffer that it stands in: turned back, and then flipped where b109 is 1. Assumes nothing.
use mathlib.Core.Path.{◌≡◌, sym, ap, ap₂, ◌∙◌}
use mathlib.Core.Bool.{Bool, true, false}
use mathlib.Core.List.{List, ◌++◌}
use Prim.Native.Nat.{ℕ, ◌-◌, ◌≤◌, ◌<◌}
use native.Mathlib.Omega.{arith}
use borrow.Author.Tests.{eq-eqb, ne_eqb}
use lib.Dec.{T}
use lib.ListN.{length, get_or, take, drop, get_or-append}
use lib.Seq.{take_at, drop_at, length-take-le}
use Rattle.bits.specs.Bits.{all_bits, flip}
use Rattle.bits.proofs.AllBits.{all_bits-take}
use Rattle.formats.specs.Numbers.{Numbers}
use Rattle.cyclic.specs.Check.{turned}
use Rattle.cyclic.proofs.Laws.{length-turned, bits_turned}
use Rattle.reader.specs.Windows.{oriented}
use Rattle.reader.specs.Reads.{is_flipped, turned_back, telegram_in}
use Rattle.reader.proofs.Windows.{length-oriented, bits_oriented}

module _ (F : Numbers) (t : ℕ) (w : List ℕ) (size : F.n ≤ length w) where
  pub length_back : length (turned_back F t w) ≡ F.n
  unfolding turned_back
  length_back = length-turned (F.n - t) (take F.n w) ∙ length-take-le F.n w size

  pub length_found : length (telegram_in F t w) ≡ F.n
  unfolding telegram_in
  length_found = length-oriented (is_flipped F (turned_back F t w)) (turned_back F t w) ∙ length_back

  -- the front of a buffer in which the telegram stands
  pub found_front : (n : ℕ) → n ≡ F.n → (s rest : List ℕ) → s ≡ telegram_in F t w ++ rest → take n s ≡ telegram_in F t w
  found_front n n_is s rest e = ap₂ take n_is e ∙ take_at (telegram_in F t w) rest F.n length_found

  -- old with the bits turned back over its front is s
  module _ (n : ℕ) (n_is : n ≡ F.n) (old s : List ℕ)
      (e : s ≡ turned (length (take n w) - t) (take n w) ++ drop (length (take n w)) old) where
    stands : s ≡ turned_back F t w ++ drop F.n old
    unfolding turned_back
    stands =
        e
        ∙ ap (λ (i : ℕ). turned (length (take i w) - t) (take i w) ++ drop (length (take i w)) old) n_is
        ∙ ap (λ (i : ℕ). turned (i - t) (take F.n w) ++ drop i old) (length-take-le F.n w size)

    pub front_is : take n s ≡ turned_back F t w
    front_is = ap₂ take n_is stands ∙ take_at (turned_back F t w) (drop F.n old) F.n length_back

    back_is : drop n s ≡ drop F.n old
    back_is = ap₂ drop n_is stands ∙ drop_at (turned_back F t w) (drop F.n old) F.n length_back

    bit_is : 110 ≤ F.n → get_or s (n - 110) 0 ≡ get_or (turned_back F t w) (F.n - 110) 0
    bit_is h =
        let within : F.n - 110 < length (turned_back F t w) = omega (arith, length_back) in
        ap₂ (λ (l : List ℕ) (i : ℕ). get_or l (i - 110) 0) stands n_is
        ∙ get_or-append (turned_back F t w) (drop F.n old) 0 (F.n - 110) within

    pub is_flipped_lem : 110 ≤ F.n → get_or s (n - 110) 0 ≡ 1 → is_flipped F (turned_back F t w) ≡ true
    unfolding is_flipped
    is_flipped_lem h one = eq-eqb (get_or (turned_back F t w) (F.n - 110) 0) 1 (sym (bit_is h) ∙ one)

    pub is_upright : 110 ≤ F.n → (get_or s (n - 110) 0 ≡ 1 → ⊥) → is_flipped F (turned_back F t w) ≡ false
    unfolding is_flipped
    is_upright h other = ne_eqb (get_or (turned_back F t w) (F.n - 110) 0) 1 (λ one. other (bit_is h ∙ one))

    -- left is the front flipped
    pub flipped_stands : (left : List ℕ) → left ≡ flip (take n s) → is_flipped F (turned_back F t w) ≡ true
        → left ++ drop n s ≡ telegram_in F t w ++ drop F.n old
    unfolding telegram_in
    flipped_stands left turned f =
        ap₂ ◌++◌ (turned ∙ ap flip front_is ∙ ap (λ (x : Bool). oriented x (turned_back F t w)) (sym f)) back_is

    pub upright_stands : is_flipped F (turned_back F t w) ≡ false → s ≡ telegram_in F t w ++ drop F.n old
    unfolding telegram_in
    upright_stands f = stands ∙ ap (λ (x : Bool). oriented x (turned_back F t w) ++ drop F.n old) (sym f)

-- bits turned back, and upright, are bits
module _ (F : Numbers) (t : ℕ) (w : List ℕ) (h : T (all_bits w)) where
  pub bits_back : T (all_bits (turned_back F t w))
  unfolding turned_back
  bits_back = bits_turned (F.n - t) (take F.n w) (all_bits-take F.n w h)

  pub bits_found : T (all_bits (telegram_in F t w))
  unfolding telegram_in
  bits_found = bits_oriented (is_flipped F (turned_back F t w)) (turned_back F t w) bits_back
