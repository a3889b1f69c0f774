-- A well-formed telegram: its parts by name, that it is the one made from its own fields, and when a made telegram is well-formed.
-- Assumes nothing.
use Prim.Native.Nat.{ℕ, ◌+◌, ◌-◌, ◌*◌, ◌≤◌, ◌<◌}
use mathlib.Core.Path.{◌≡◌, refl, sym, ap, ap₂, subst, ◌∙◌}
use mathlib.Core.Bool.{Bool, true, ◌&&◌, and_assoc}
use mathlib.Core.List.{List, ◌++◌}
use native.Mathlib.Omega.{arith}
use lib.Dec.{T, eqb, eqb→eq, eqb_refl}
use lib.ListN.{length, take, drop, length-drop, take-append-drop}
use lib.Seq.{take-add}
use Rattle.bits.specs.Bits.{all_bits, same}
use Rattle.bits.proofs.AllBits.{all_bits-drop}
use Rattle.bits.proofs.And.{and_left, and_right, and_of}
use Rattle.bits.proofs.Groups.{groups_add}
use Rattle.bits.proofs.Equal.{same_equal, same_of}
use Rattle.bits.proofs.Parts.{drop_from, front_below, front_bits}
use Rattle.bits.proofs.Tests.{is_true, tests_agree}
use Rattle.formats.specs.Numbers.{Numbers, blocks}
use Rattle.formats.proofs.Sizes.{Sizes}
use Rattle.words.specs.Words.{is_word}
use Rattle.scrambling.specs.Scrambling.{scrambled, descrambled}
use Rattle.scrambling.proofs.Scrambled.{descrambled-length, descrambled_bits, scrambled-descrambled}
use Rattle.scrambling.proofs.Summed.{with_sum-without_sum}
use Rattle.cyclic.specs.Check.{check_bits}
use Rattle.cyclic.proofs.Laws.{Facts}
use Rattle.telegrams.specs.Telegram.{shaped, shaped_data, control, settings, unchecked, telegram_of}
use Rattle.telegrams.specs.Fields.{control_of, scrambling_of, shaping_of, unshaped, user_bits_of, all_words, checked, well_formed}
use Rattle.telegrams.specs.Worded.{ControlAndCheck}
use Rattle.telegrams.proofs.Shaping.{length-unshaped, bits_unshaped, shaped-unshaped}
use Rattle.telegrams.proofs.Made.{length_made, bits_made, control_made, words_made, checked_made}

-- ---- the fields of any bits are numbers of twelve and ten bits

pub scrambling_below : (F : Numbers) (b : List ℕ) → T (all_bits b) → scrambling_of F b < 4096
unfolding scrambling_of
scrambling_below F b h = front_below 12 (drop (F.n - 107) b) (all_bits-drop (F.n - 107) b h)

pub shaping_below : (F : Numbers) (b : List ℕ) → T (all_bits b) → shaping_of F b < 1024
unfolding shaping_of
shaping_below F b h = front_below 10 (drop (F.n - 95) b) (all_bits-drop (F.n - 95) b h)

-- ---- the parts of the test, by name

pub record WellFormed (F : Numbers) (b : List ℕ) : Type 0 where
  pub size : length b ≡ F.n
  pub bits : T (all_bits b)
  pub control_is : control_of F b ≡ control
  pub words_in_table : T (all_words F.words b)
  pub check : T (checked F b)

pub parts : (F : Numbers) (b : List ℕ) → T (well_formed F b) → WellFormed F b
unfolding well_formed
parts F b h =
    let e = eqb (length b) F.n in
    let c = same (control_of F b) control in
    let w = all_words F.words b in
    let words = and_left (e && all_bits b && c && w) (checked F b) h in
    let control = and_left (e && all_bits b && c) w words in
    let bits = and_left (e && all_bits b) c control in
    record {
      size = eqb→eq (length b) F.n (and_left e (all_bits b) bits);
      bits = and_right e (all_bits b) bits;
      control_is = same_equal _ _ (and_right (e && all_bits b) c control);
      words_in_table = and_right (e && all_bits b && c) w words;
      check = and_right (e && all_bits b && c && w) (checked F b) h;
    }

-- all but the words
pub but_words : (F : Numbers) (b : List ℕ) → WellFormed F b → ControlAndCheck F b
but_words F b p = record { size = p.size; bits = p.bits; control_is = p.control_is; check = p.check }

pub with_words : (F : Numbers) (b : List ℕ) → ControlAndCheck F b → T (all_words F.words b) → WellFormed F b
with_words F b p words = record { size = p.size; bits = p.bits; control_is = p.control_is; words_in_table = words; check = p.check }

pub from_parts : (F : Numbers) (b : List ℕ) → WellFormed F b → T (well_formed F b)
unfolding well_formed
from_parts F b p =
    let e = eqb (length b) F.n in
    let c = same (control_of F b) control in
    let w = all_words F.words b in
    let sized : T e = rw p.size (eqb_refl F.n) in
    and_of (e && all_bits b && c && w) (checked F b)
    (and_of (e && all_bits b && c) w
    (and_of (e && all_bits b) c (and_of e (all_bits b) sized p.bits) (same_of (control_of F b) control p.control_is))
    p.words_in_table)
    p.check

-- ---- the words are those of the shaped data and the last ten

pub words_split : (F : Numbers) → Sizes F → (b : List ℕ)
    → all_words F.words b ≡ all_words (blocks F) b && all_words 10 (drop (F.n - 110) b)
words_split F S b =
    let place : 11 * blocks F ≡ F.n - 110 = omega (arith, S.n_is) in
    ap (λ (k : ℕ). all_words k b) S.words_are ∙ groups_add ◌&&◌ true is_word 11 (λ t. refl) and_assoc (blocks F) 10 b
    ∙ ap (λ (i : ℕ). all_words (blocks F) b && all_words 10 (drop i b)) place

-- ---- a well-formed telegram is the one made from its own fields

module _ (F : Numbers) (S : Sizes F) (b : List ℕ) (h : WellFormed F b) where
  -- the shaped data
  own_data : shaped_data F (user_bits_of F b) (scrambling_of F b) ≡ take (F.n - 110) b
  unfolding shaped_data user_bits_of
  own_data =
      let k = blocks F in
      let B = scrambling_of F b in
      let s = unshaped k b in
      let d = descrambled B s in
      let place : 11 * k ≡ F.n - 110 = omega (arith, S.n_is) in
      let within : 11 * k ≤ length b = omega (arith, S.n_is, h.size) in
      let ten : 10 ≤ length d = omega (arith, descrambled-length B s, length-unshaped k b, S.some) in
      let words : T (all_words k b) = and_left (all_words k b) (all_words 10 (drop (F.n - 110) b)) (subst T (words_split F S b) h.words_in_table) in
      ap (λ (v : List ℕ). shaped k (scrambled B v)) (with_sum-without_sum k d (descrambled_bits B s) S.some ten)
      ∙ ap (shaped k) (scrambled-descrambled B s (bits_unshaped k b))
      ∙ shaped-unshaped k b h.bits words within
      ∙ ap (λ (i : ℕ). take i b) place

  -- the settings
  own_settings : settings (scrambling_of F b) (shaping_of F b) ≡ take 25 (drop (F.n - 110) b)
  unfolding settings control_of scrambling_of shaping_of
  own_settings =
      let l = drop (F.n - 110) b in
      let l3 = drop_from (F.n - 110) 3 (F.n - 107) b (omega (arith, S.n_is)) in
      let l15 = drop_from (F.n - 107) 12 (F.n - 95) b (omega (arith, S.n_is)) in
      let twelve : 12 ≤ length (drop (F.n - 107) b) = omega (arith, length-drop (F.n - 107) b, h.size, S.n_is) in
      let ten : 10 ≤ length (drop (F.n - 95) b) = omega (arith, length-drop (F.n - 95) b, h.size, S.n_is) in
      ap₂ ◌++◌ (sym h.control_is)
      (ap₂ ◌++◌ (front_bits 12 (drop (F.n - 107) b) (all_bits-drop (F.n - 107) b h.bits) twelve)
      (front_bits 10 (drop (F.n - 95) b) (all_bits-drop (F.n - 95) b h.bits) ten ∙ ap (take 10) l15)
      ∙ sym (take-add 12 10 (drop (F.n - 107) b))
      ∙ ap (take 22) l3)
      ∙ sym (take-add 3 22 l)

  -- what stands before the check bits
  pub own_unchecked : unchecked F (user_bits_of F b) (scrambling_of F b) (shaping_of F b) ≡ take (F.n - 85) b
  unfolding unchecked
  own_unchecked =
      let place : F.n - 110 + 25 ≡ F.n - 85 = omega (arith, S.n_is) in
      ap₂ ◌++◌ own_data own_settings ∙ sym (take-add (F.n - 110) 25 b) ∙ ap (λ (i : ℕ). take i b) place

  pub remade : b ≡ telegram_of F (user_bits_of F b) (scrambling_of F b) (shaping_of F b)
  unfolding telegram_of checked
  remade =
      let i = F.n - 85 in
      sym (take-append-drop i b)
      ∙ ap (λ (l : List ℕ). take i b ++ l) (same_equal (drop i b) (check_bits F (take i b)) h.check)
      ∙ ap (λ (d : List ℕ). d ++ check_bits F d) (sym own_unchecked)

-- ---- a made telegram is well-formed if its last ten words are in the table

module _ (F : Numbers) (A : Facts F) (S : Sizes F) (u : List ℕ) (B esb : ℕ) where
  pub made_parts : T (all_words 10 (drop (F.n - 110) (telegram_of F u B esb))) → WellFormed F (telegram_of F u B esb)
  made_parts h =
      let t = telegram_of F u B esb in
      record {
        size = length_made F A S u B esb;
        bits = bits_made F A S u B esb;
        control_is = control_made F A S u B esb;
        words_in_table = subst T (sym (words_split F S t)) (and_of (all_words (blocks F) t) (all_words 10 (drop (F.n - 110) t)) (words_made F A S u B esb) h);
        check = checked_made F A S u B esb;
      }

  pub made_well_formed : well_formed F (telegram_of F u B esb) ≡ all_words 10 (drop (F.n - 110) (telegram_of F u B esb))
  made_well_formed =
      let t = telegram_of F u B esb in
      let last = all_words 10 (drop (F.n - 110) t) in
      tests_agree (well_formed F t) last
      (λ h. and_right (all_words (blocks F) t) last (subst T (words_split F S t) (parts F t h).words_in_table))
      (λ h. from_parts F t (made_parts h))

  -- and so if all of them are
  pub made_by_words : well_formed F (telegram_of F u B esb) ≡ all_words F.words (telegram_of F u B esb)
  made_by_words =
      let t = telegram_of F u B esb in
      let last = all_words 10 (drop (F.n - 110) t) in
      made_well_formed ∙ sym (words_split F S t ∙ ap (λ (x : Bool). x && last) (is_true (all_words (blocks F) t) (words_made F A S u B esb)))
