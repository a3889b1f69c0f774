-- The telegram made from user bits, B and esb: n bits, and its fields are what it was made from. Assumes nothing.
use Prim.Native.Nat.{ℕ, ◌-◌, ◌*◌, ◌≤◌, ◌<◌}
use mathlib.Core.Path.{◌≡◌, sym, ap, ap₂, ◌∙◌}
use mathlib.Core.List.{List, ◌++◌, append_assoc}
use native.Mathlib.Omega.{arith}
use lib.Dec.{T}
use lib.ListN.{length, take, drop, length-append}
use lib.Seq.{take_at, drop_at}
use Rattle.bits.specs.Bits.{all_bits, bits_of}
use Rattle.bits.proofs.AllBits.{all_bits-append, all_bits-bits_of}
use Rattle.bits.proofs.Equal.{same_of}
use Rattle.bits.proofs.Numbers.{length-bits_of}
use Rattle.bits.proofs.Parts.{front_is, rest_is, drop_from, front_number}
use Rattle.formats.specs.Numbers.{Numbers, blocks}
use Rattle.formats.proofs.Sizes.{Sizes}
use Rattle.scrambling.specs.Scrambling.{scrambled, descrambled}
use Rattle.scrambling.specs.Sum.{with_sum, without_sum}
use Rattle.scrambling.proofs.Scrambled.{scrambled-length, scrambled_bits, descrambled-length, descrambled_bits, descrambled-scrambled}
use Rattle.scrambling.proofs.Summed.{with_sum-length, with_sum_bits, without_sum-length, without_sum_bits, without_sum-with_sum}
use Rattle.cyclic.specs.Check.{check_bits}
use Rattle.cyclic.proofs.Laws.{Facts, bits_check_bits, length-check_bits}
use Rattle.telegrams.specs.Telegram.{shaped_data, control, settings, unchecked, telegram_of}
use Rattle.telegrams.specs.Fields.{control_of, scrambling_of, shaping_of, unshaped, user_bits_of, all_words, checked}
use Rattle.telegrams.proofs.Shaping.{length-shaped, bits_shaped, length-unshaped, all_words-shaped, unshaped_all}

-- ---- the settings

pub length-settings : (B esb : ℕ) → length (settings B esb) ≡ 25
unfolding settings
length-settings B esb = omega (arith, length-append (bits_of 12 B) (bits_of 10 esb), length-bits_of 12 B, length-bits_of 10 esb)

bits_control : T (all_bits control)
unfolding all_bits
bits_control = tt

pub bits_settings : (B esb : ℕ) → T (all_bits (settings B esb))
unfolding settings
bits_settings B esb =
    all_bits-append control (bits_of 12 B ++ bits_of 10 esb) bits_control
    (all_bits-append (bits_of 12 B) (bits_of 10 esb) (all_bits-bits_of 12 B) (all_bits-bits_of 10 esb))

-- ---- what stands before the check bits

pub bits_shaped_data : (F : Numbers) (u : List ℕ) (B : ℕ) → T (all_bits (shaped_data F u B))
unfolding shaped_data
bits_shaped_data F u B = bits_shaped (blocks F) (scrambled B (with_sum (blocks F) u))

pub bits_unchecked : (F : Numbers) (u : List ℕ) (B esb : ℕ) → T (all_bits (unchecked F u B esb))
unfolding unchecked
bits_unchecked F u B esb = all_bits-append (shaped_data F u B) (settings B esb) (bits_shaped_data F u B) (bits_settings B esb)

pub length-shaped_data : (F : Numbers) → Sizes F → (u : List ℕ) (B : ℕ) → length (shaped_data F u B) ≡ F.n - 110
unfolding shaped_data
length-shaped_data F S u B = length-shaped (blocks F) (scrambled B (with_sum (blocks F) u)) ∙ omega (arith, S.n_is)

pub length-unchecked : (F : Numbers) → Sizes F → (u : List ℕ) (B esb : ℕ) → length (unchecked F u B esb) ≡ F.n - 85
unfolding unchecked
length-unchecked F S u B esb =
    length-append (shaped_data F u B) (settings B esb) ∙ omega (arith, length-shaped_data F S u B, length-settings B esb, S.n_is)

-- ---- the user bits of any telegram

pub length-user_bits : (F : Numbers) → Sizes F → (b : List ℕ) → length (user_bits_of F b) ≡ F.m
unfolding user_bits_of
length-user_bits F S b =
    let s = unshaped (blocks F) b in
    let d = descrambled (scrambling_of F b) s in
    let size : length d ≡ F.m = descrambled-length (scrambling_of F b) s ∙ length-unshaped (blocks F) b ∙ sym S.m_is in
    without_sum-length (blocks F) d (omega (arith, S.m_is, S.some)) ∙ size

pub bits_user_bits : (F : Numbers) (b : List ℕ) → T (all_bits (user_bits_of F b))
unfolding user_bits_of
bits_user_bits F b =
    let s = unshaped (blocks F) b in
    without_sum_bits (blocks F) (descrambled (scrambling_of F b) s) (descrambled_bits (scrambling_of F b) s)

-- ---- the telegram made from u, B and esb

module _ (F : Numbers) (A : Facts F) (S : Sizes F) (u : List ℕ) (B esb : ℕ) where
  pub length_made : length (telegram_of F u B esb) ≡ F.n
  unfolding telegram_of
  length_made =
      let d = unchecked F u B esb in
      length-append d (check_bits F d) ∙ omega (arith, length-unchecked F S u B esb, length-check_bits F A d, S.n_is)

  pub bits_made : T (all_bits (telegram_of F u B esb))
  unfolding telegram_of
  bits_made =
      let d = unchecked F u B esb in
      all_bits-append d (check_bits F d) (bits_unchecked F u B esb) (bits_check_bits F A d)

  -- its parts
  pub made_front : take (F.n - 85) (telegram_of F u B esb) ≡ unchecked F u B esb
  unfolding telegram_of
  made_front = take_at (unchecked F u B esb) (check_bits F (unchecked F u B esb)) (F.n - 85) (length-unchecked F S u B esb)

  pub made_check : drop (F.n - 85) (telegram_of F u B esb) ≡ check_bits F (unchecked F u B esb)
  unfolding telegram_of
  made_check = drop_at (unchecked F u B esb) (check_bits F (unchecked F u B esb)) (F.n - 85) (length-unchecked F S u B esb)

  pub made_split : telegram_of F u B esb ≡ shaped_data F u B ++ (settings B esb ++ check_bits F (unchecked F u B esb))
  unfolding telegram_of unchecked
  made_split = append_assoc (shaped_data F u B) (settings B esb) (check_bits F (unchecked F u B esb))

  pub made_data : take (F.n - 110) (telegram_of F u B esb) ≡ shaped_data F u B
  made_data = front_is (shaped_data F u B) _ (telegram_of F u B esb) (F.n - 110) (length-shaped_data F S u B) made_split

  pub made_last : drop (F.n - 110) (telegram_of F u B esb) ≡ settings B esb ++ check_bits F (unchecked F u B esb)
  made_last = rest_is (shaped_data F u B) _ (telegram_of F u B esb) (F.n - 110) (length-shaped_data F S u B) made_split

  -- from the scrambling bits on
  from_scrambling : drop (F.n - 107) (telegram_of F u B esb) ≡ bits_of 12 B ++ (bits_of 10 esb ++ check_bits F (unchecked F u B esb))
  unfolding settings
  from_scrambling =
      drop_from (F.n - 110) 3 (F.n - 107) (telegram_of F u B esb) (omega (arith, S.n_is)) ∙ ap (drop 3) made_last
      ∙ append_assoc (bits_of 12 B) (bits_of 10 esb) (check_bits F (unchecked F u B esb))

  -- from the extra shaping bits on
  from_shaping : drop (F.n - 95) (telegram_of F u B esb) ≡ bits_of 10 esb ++ check_bits F (unchecked F u B esb)
  from_shaping =
      let t = telegram_of F u B esb in
      drop_from (F.n - 107) 12 (F.n - 95) t (omega (arith, S.n_is)) ∙ rest_is (bits_of 12 B) _ _ 12 (length-bits_of 12 B) from_scrambling

  -- its fields
  pub control_made : control_of F (telegram_of F u B esb) ≡ control
  unfolding control_of settings
  control_made = ap (take 3) made_last

  pub scrambling_made : B < 4096 → scrambling_of F (telegram_of F u B esb) ≡ B
  unfolding scrambling_of
  scrambling_made h = front_number 12 B _ (drop (F.n - 107) (telegram_of F u B esb)) from_scrambling h

  pub shaping_made : esb < 1024 → shaping_of F (telegram_of F u B esb) ≡ esb
  unfolding shaping_of
  shaping_made h = front_number 10 esb _ (drop (F.n - 95) (telegram_of F u B esb)) from_shaping h

  -- the words of the shaped data are in the table
  pub words_made : T (all_words (blocks F) (telegram_of F u B esb))
  unfolding shaped_data
  words_made =
      let v = scrambled B (with_sum (blocks F) u) in
      rw made_split (all_words-shaped (blocks F) v (settings B esb ++ check_bits F (unchecked F u B esb)) (scrambled_bits B (with_sum (blocks F) u)))

  pub user_bits_made : T (all_bits u) → length u ≡ F.m → B < 4096 → user_bits_of F (telegram_of F u B esb) ≡ u
  unfolding user_bits_of shaped_data
  user_bits_made h size below =
      let k = blocks F in
      let v = scrambled B (with_sum k u) in
      let rest = settings B esb ++ check_bits F (unchecked F u B esb) in
      let ten : 10 ≤ length u = omega (arith, S.m_is, S.some) in
      let whole : length v ≡ 10 * k = scrambled-length B (with_sum k u) ∙ with_sum-length k u ten ∙ size ∙ S.m_is in
      ap₂ (λ (c : ℕ) (l : List ℕ). without_sum k (descrambled c l)) (scrambling_made below)
      (ap (unshaped k) made_split ∙ unshaped_all k v rest (scrambled_bits B (with_sum k u)) whole)
      ∙ ap (without_sum k) (descrambled-scrambled B (with_sum k u) (with_sum_bits k u h))
      ∙ without_sum-with_sum k u h S.some ten

  pub checked_made : T (checked F (telegram_of F u B esb))
  unfolding checked
  checked_made =
      let t = telegram_of F u B esb in
      same_of (drop (F.n - 85) t) (check_bits F (take (F.n - 85) t)) (made_check ∙ ap (check_bits F) (sym made_front))
