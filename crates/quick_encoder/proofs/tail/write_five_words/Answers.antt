-- `quick_encoder::tail::write_five_words` meets its contract: the highest 27 digits are written, and then the other 28. Assumes nothing.
use mathlib.Core.Path.{◌≡◌, sym, ap, ap₂, ◌∙◌}
use mathlib.Core.List.{List, ◌++◌}
use Prim.Native.Nat.{ℕ, ◌/◌, ◌%◌, ◌^◌}
use lib.ListN.{drop}
use Rattle.bits.specs.Bits.{bits_of}
use Rattle.bits.proofs.Numbers.{length-bits_of, bits_of-add, bits_of-mod}
use Rattle.telegrams.proofs.Buffers.Fronts.{front_more}
use Rattle.quick_encoder.proofs.tail.write_five_words.Goals as goal

-- the digits in two parts
in_two : (x : ℕ) → bits_of 27 (x / 2 ^ 28 % 2 ^ 27) ++ bits_of 28 (x % 2 ^ 28) ≡ bits_of 55 x
in_two x = ap₂ ◌++◌ (bits_of-mod 27 (x / 2 ^ 28)) (bits_of-mod 28 x) ∙ sym (bits_of-add 27 28 x)

pub returns : goal.returns
returns c =
    let a = c.args in
    let x = a.x in
    let old = a.out.now in
    let high = x / 2 ^ 28 % 2 ^ 27 in
    let low = bits_of 28 (x % 2 ^ 28) in
    front_more (bits_of 27 high) low old c.write_number.new.out c.write_number-2.new.out 27 28 (length-bits_of 27 high)
    c.write_number.ensures c.write_number-2.ensures
    ∙ ap (λ (l : List ℕ). l ++ drop 55 old) (in_two x)
