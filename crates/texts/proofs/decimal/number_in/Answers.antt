-- `texts::decimal::number_in` meets its contract. The loop's invariant: the number of the text is that of the digits passed with the rest of
-- the digits after it. Assumes nothing.
use Rattle.std.proofs.Common.{◌≡◌, ℕ, ◌+◌, ◌-◌, ◌*◌, ◌<◌, ◌≤◌, true, false, List, length, drop, get_or, Some, None, sym, ◌∙◌, arith}
use Rattle.std.proofs.lemmas.Bool.Decides.{nat_tests}
use Rattle.std.proofs.lemmas.List.{at_drop_more, at_drop_all}
use Rattle.texts.specs.Decimal.{is_digit, digits_from, decimal_of}
use Rattle.texts.proofs.decimal.number_in.Goals as goal

-- a text by its length
some : (text : List ℕ) → 1 ≤ length text → length text ≤ 9 → decimal_of text ≡ digits_from 0 text
unfolding decimal_of
some text h k = grind (arith, nat_tests)

-- the byte after i digits is a digit, or it is not
module _ (text : List ℕ) (x i : ℕ) (within : i < length text) where
  next : is_digit (get_or text i 0) ≡ true → digits_from x (drop i text) ≡ digits_from (x * 10 + (get_or text i 0 - 48)) (drop (i + 1) text)
  unfolding digits_from
  next h = rw (at_drop_more (digits_from x) text i 0 within, h)

  stop : is_digit (get_or text i 0) ≡ false → digits_from x (drop i text) ≡ None
  unfolding digits_from
  stop h = rw (at_drop_more (digits_from x) text i 0 within, h)

ended : (text : List ℕ) (x i : ℕ) → length text ≤ i → digits_from x (drop i text) ≡ Some x
unfolding digits_from
ended text x i h = at_drop_all (digits_from x) text i h

-- where the byte is no digit, the text is no number
no_number : (text : List ℕ) (x i : ℕ) → i < length text → length text ≤ 9 → digits_from 0 text ≡ digits_from x (drop i text)
    → is_digit (get_or text i 0) ≡ false → None ≡ decimal_of text
no_number text x i within k passed h = sym (some text (omega arith) k ∙ passed ∙ stop text x i within h)

pub returns-then-is_empty : goal.returns-then-is_empty
unfolding decimal_of
returns-then-is_empty c = grind (arith, nat_tests)

pub returns-in_default : goal.returns-in_default
returns-in_default c =
    no_number c.args.text.now c.loop-byte.number c.loop-byte.byte-index (omega arith) (omega arith) c.loop-byte.invariant.1 (grind (arith, nat_tests))

pub returns-in_default-2 : goal.returns-in_default-2
returns-in_default-2 c =
    no_number c.args.text.now c.loop-byte.number c.loop-byte.byte-index (omega arith) (omega arith) c.loop-byte.invariant.1 (grind (arith, nat_tests))

pub loop-byte-preserved : goal.loop-byte-preserved
loop-byte-preserved c =
    let n = next c.args.text.now c.loop-byte.number c.loop-byte.byte-index (omega arith) (grind (arith, nat_tests)) in
    grind (arith, nat_tests)

pub returns : goal.returns
returns c =
    let text = c.args.text.now in
    sym (some text (grind (arith, nat_tests)) (omega arith) ∙ c.loop-byte.invariant.1 ∙ ended text c.loop-byte.number c.loop-byte.byte-index (omega arith))
