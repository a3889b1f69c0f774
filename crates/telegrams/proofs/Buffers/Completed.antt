-- The buffer while a telegram is made: the shaped data stands in front, then the settings come after it, then the check bits, and that is the
-- telegram. Assumes nothing.
use mathlib.Core.Path.{◌≡◌, sym, ap, ap₂, ◌∙◌}
use mathlib.Core.List.{List, ◌++◌, append_assoc}
use Prim.Native.Nat.{ℕ, ◌+◌, ◌-◌, ◌*◌, ◌≤◌}
use native.Mathlib.Omega.{arith}
use lib.Dec.{T}
use lib.ListN.{length, take, drop, length-append}
use lib.Seq.{take-append-le, length-take-le}
use Rattle.bits.specs.Bits.{all_bits, bits_of}
use Rattle.bits.proofs.AllBits.{all_bits-append}
use Rattle.bits.proofs.Parts.{front_is, rest_is, drop_from}
use Rattle.formats.specs.declared.format.Format.{Format}
use Rattle.formats.specs.Numbers.{Numbers, numbers_of, blocks}
use Rattle.formats.proofs.Sizes.{Sizes, sizes_of}
use Rattle.scrambling.specs.Scrambling.{scrambled}
use Rattle.scrambling.specs.Sum.{with_sum}
use Rattle.cyclic.specs.Check.{check_bits}
use Rattle.cyclic.proofs.Laws.{Facts}
use Rattle.telegrams.specs.Telegram.{shaped, shaped_data, settings, unchecked, telegram_of}
use Rattle.telegrams.proofs.Made.{length-settings, bits_settings, length-shaped_data, length_made, made_data}
use Rattle.telegrams.proofs.Buffers.Fronts.{lent, back, front_more, put}

-- ---- the buffer t that has the shaped data over the front of old

module _ (F : Numbers) (S : Sizes F) (u : List ℕ) (B : ℕ) (old t : List ℕ)
    (e : t ≡ shaped (blocks F) (scrambled B (with_sum (blocks F) u)) ++ drop (11 * blocks F) old) where
  place : 11 * blocks F ≡ F.n - 110
  place = omega (arith, S.n_is)

  size : length (shaped (blocks F) (scrambled B (with_sum (blocks F) u))) ≡ 11 * blocks F
  unfolding shaped_data
  size = length-shaped_data F S u B ∙ sym place

  pub data_front : take (F.n - 110) t ≡ shaped_data F u B
  unfolding shaped_data
  data_front =
      ap (λ (i : ℕ). take i t) (sym place) ∙ front_is (shaped (blocks F) (scrambled B (with_sum (blocks F) u))) _ t (11 * blocks F) size e

  -- what stands after the telegram is as it was
  pub data_back : drop F.n t ≡ drop F.n old
  data_back =
      let after : 11 * blocks F + 110 ≡ F.n = omega (arith, S.n_is) in
      drop_from (11 * blocks F) 110 F.n t after
      ∙ ap (drop 110) (rest_is (shaped (blocks F) (scrambled B (with_sum (blocks F) u))) _ t (11 * blocks F) size e)
      ∙ sym (drop_from (11 * blocks F) 110 F.n old after)

-- ---- the settings after the first n - 110 bits of t, and the check bits after them

module _ (format : Format) (t : List ℕ) (B esb : ℕ) (fits : (numbers_of format).n ≤ length t) where
  settled_size : length (take ((numbers_of format).n - 110) t ++ settings B esb) ≡ (numbers_of format).n - 85
  settled_size =
      length-append (take ((numbers_of format).n - 110) t) (settings B esb)
      ∙ omega (arith, length-take-le ((numbers_of format).n - 110) t (omega arith), length-settings B esb, (sizes_of format).n_is)

  -- left is what the callee that writes the settings leaves
  module _ (n : ℕ) (n_is : n ≡ (numbers_of format).n) (left : List ℕ) (written : left ≡ settings B esb ++ drop 25 (lent (n - 110) t)) where
    pub settled : back (n - 110) t left ≡ (take ((numbers_of format).n - 110) t ++ settings B esb) ++ drop ((numbers_of format).n - 85) t
    settled =
        let place : n - 110 + 25 ≡ (numbers_of format).n - 85 = omega (arith, (sizes_of format).n_is) in
        put (n - 110) 25 t (settings B esb) left (omega arith) (length-settings B esb) written
        ∙ ap₂ (λ (m i : ℕ). (take (m - 110) t ++ settings B esb) ++ drop i t) n_is place

    pub settled_front : take (n - 85) (back (n - 110) t left) ≡ take ((numbers_of format).n - 110) t ++ settings B esb
    settled_front =
        front_is (take ((numbers_of format).n - 110) t ++ settings B esb) _ (back (n - 110) t left) (n - 85)
        (settled_size ∙ omega arith) settled

    pub bits_before : T (all_bits (take ((numbers_of format).n - 110) t)) → T (all_bits (take (n - 85) (back (n - 110) t left)))
    bits_before h = rw settled_front (all_bits-append (take ((numbers_of format).n - 110) t) (settings B esb) h (bits_settings B esb))

  -- s has the settings, y is the number of the check bits, and last what the callee that writes them leaves
  pub completed : (checked y : ℕ) (s last : List ℕ) → checked ≡ (numbers_of format).n - 85
      → s ≡ (take ((numbers_of format).n - 110) t ++ settings B esb) ++ drop ((numbers_of format).n - 85) t
      → bits_of 85 y ≡ check_bits (numbers_of format) (take ((numbers_of format).n - 110) t ++ settings B esb)
      → last ≡ bits_of 85 y ++ drop 85 (lent checked s)
      → back checked s last
      ≡ (take ((numbers_of format).n - 110) t ++ settings B esb)
      ++ (check_bits (numbers_of format) (take ((numbers_of format).n - 110) t ++ settings B esb) ++ drop (numbers_of format).n t)
  completed checked y s last place e check written =
      let d = take ((numbers_of format).n - 110) t ++ settings B esb in
      let end : checked + 85 ≡ (numbers_of format).n = omega (arith, (sizes_of format).n_is) in
      front_more d (bits_of 85 y) t s last checked 85 (settled_size ∙ sym place) (e ∙ ap (λ (i : ℕ). d ++ drop i t) (sym place)) written
      ∙ append_assoc d (bits_of 85 y) (drop (checked + 85) t)
      ∙ ap₂ (λ (c : List ℕ) (i : ℕ). d ++ (c ++ drop i t)) check end

-- ---- the telegram

-- what `complete` leaves where the shaped data of u and B stood in front of t
pub made_telegram : (F : Numbers) (u : List ℕ) (B esb : ℕ) (t rest : List ℕ) → take (F.n - 110) t ≡ shaped_data F u B
    → (take (F.n - 110) t ++ settings B esb) ++ (check_bits F (take (F.n - 110) t ++ settings B esb) ++ rest) ≡ telegram_of F u B esb ++ rest
unfolding telegram_of unchecked
made_telegram F u B esb t rest e =
    let d = shaped_data F u B ++ settings B esb in
    ap (λ (front : List ℕ). (front ++ settings B esb) ++ (check_bits F (front ++ settings B esb) ++ rest)) e
    ∙ sym (append_assoc d (check_bits F d) rest)

-- and where `write_shaped_data` had put it there, over the front of old
pub made_over : (F : Numbers) → Sizes F → (u : List ℕ) (B esb : ℕ) (old t made : List ℕ)
    → t ≡ shaped (blocks F) (scrambled B (with_sum (blocks F) u)) ++ drop (11 * blocks F) old
    → made ≡ (take (F.n - 110) t ++ settings B esb) ++ (check_bits F (take (F.n - 110) t ++ settings B esb) ++ drop F.n t)
    → made ≡ telegram_of F u B esb ++ drop F.n old
made_over F S u B esb old t made e completed =
    completed ∙ made_telegram F u B esb t (drop F.n t) (data_front F S u B old t e)
    ∙ ap (λ (l : List ℕ). telegram_of F u B esb ++ l) (data_back F S u B old t e)

-- in a buffer that a telegram stands in front of: its shaped data, with which another can be completed, and what stands after it
module _ (F : Numbers) (A : Facts F) (S : Sizes F) (u : List ℕ) (B esb : ℕ) (rest : List ℕ) where
  pub telegram_data : take (F.n - 110) (telegram_of F u B esb ++ rest) ≡ shaped_data F u B
  telegram_data =
      take-append-le (F.n - 110) (telegram_of F u B esb) rest (omega (arith, length_made F A S u B esb)) ∙ made_data F A S u B esb
