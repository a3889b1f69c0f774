-- `quick_encoder::search::meets_conditions` meets its contract: the tail is written after the shaped data, and the conditions are those of the
-- whole. Assumes nothing.
-- ---- the tail
-- ---- the buffer when the tail is written after the shaped data: of the buffer old the callee is lent what stands from n - 110 on
-- ---- the function
use mathlib.Core.Path.{◌≡◌, sym, ap, subst, ◌∙◌}
use mathlib.Core.List.{List, ◌++◌}
use Prim.Native.Nat.{ℕ, ◌+◌, ◌-◌, ◌≤◌}
use native.Mathlib.Omega.{arith}
use lib.Dec.{T}
use lib.ListN.{length, take, drop, length-append, length-drop}
use lib.Seq.{length-take-le}
use Rattle.bits.specs.Bits.{all_bits, bits_of}
use Rattle.bits.proofs.AllBits.{all_bits-append, all_bits-bits_of}
use Rattle.bits.proofs.Numbers.{length-bits_of}
use Rattle.formats.specs.declared.format.Format.{Format}
use Rattle.formats.specs.Numbers.{numbers_of}
use Rattle.formats.proofs.Sizes.{sizes_of}
use Rattle.telegrams.proofs.Buffers.Fronts.{lent, lent_is, back, put_whole, put_front}
use Rattle.quick_encoder.specs.declared.tail.Tail.{Tail}
use Rattle.quick_encoder.specs.Tail.{tail_bits}
use Rattle.quick_encoder.specs.PairFrom.{meets_conditions}
use Rattle.quick_encoder.proofs.search.meets_conditions.Goals as goal

length-tail : (t : Tail) → length (tail_bits t) ≡ 110
length-tail t = length-append (bits_of 55 t.high) (bits_of 55 t.low) ∙ omega (arith, length-bits_of 55 t.high, length-bits_of 55 t.low)

bits_tail : (t : Tail) → T (all_bits (tail_bits t))
bits_tail t = all_bits-append (bits_of 55 t.high) (bits_of 55 t.low) (all_bits-bits_of 55 t.high) (all_bits-bits_of 55 t.low)

module _ (format : Format) (n : ℕ) (n_is : n ≡ (numbers_of format).n) (old : List ℕ) (fits : (numbers_of format).n ≤ length old) (t : Tail)
    (left : List ℕ) (written : left ≡ tail_bits t ++ drop 110 (lent (n - 110) old)) where
  data_kept : take ((numbers_of format).n - 110) (back (n - 110) old left) ≡ take ((numbers_of format).n - 110) old
  data_kept =
      subst (λ (m : ℕ). take (m - 110) (back (n - 110) old left) ≡ take (m - 110) old) n_is
      (put_front (n - 110) 110 old (tail_bits t) left (omega arith) (length-tail t) written)

  completed : take n (back (n - 110) old left) ≡ take ((numbers_of format).n - 110) old ++ tail_bits t
  completed =
      let whole : n ≡ n - 110 + 110 = omega (arith, (sizes_of format).n_is) in
      ap (λ (i : ℕ). take i (back (n - 110) old left)) whole ∙ put_whole (n - 110) 110 old (tail_bits t) left (omega arith) (length-tail t) written
      ∙ ap (λ (m : ℕ). take (m - 110) old ++ tail_bits t) n_is

  length_completed : length (take n (back (n - 110) old left)) ≡ n
  length_completed =
      ap length completed ∙ length-append (take ((numbers_of format).n - 110) old) (tail_bits t)
      ∙ omega (arith, length-take-le ((numbers_of format).n - 110) old (omega arith), length-tail t, (sizes_of format).n_is)

  bits_completed : T (all_bits (take ((numbers_of format).n - 110) old)) → T (all_bits (take n (back (n - 110) old left)))
  bits_completed h = rw completed (all_bits-append (take ((numbers_of format).n - 110) old) (tail_bits t) h (bits_tail t))

pub overflow_sub-at : goal.overflow_sub-at
overflow_sub-at c =
    let last : 110 ≤ c.telegram_bits-n.result = omega (arith, (sizes_of c.args.format).n_is) in
    last

pub write_tail-requires : goal.write_tail-requires
write_tail-requires c =
    let last : 110 ≤ c.telegram_bits-n.result = omega (arith, (sizes_of c.args.format).n_is) in
    simp (lent_is, length-drop) (omega (arith, last))

pub slice_bounds-conditions-end-2 : goal.slice_bounds-conditions-end-2
slice_bounds-conditions-end-2 c =
    sym (length_completed c.args.format _ c.telegram_bits-n.ensures _ c.requires.format_in_bounds c.args.tail _ c.write_tail.ensures)

pub invariant_of-conditions : goal.invariant_of-conditions
invariant_of-conditions c = record {
  are_bits = bits_completed c.args.format _ c.telegram_bits-n.ensures _ c.requires.format_in_bounds c.args.tail _ c.write_tail.ensures c.requires.are_bits;
  size = sym (slice_bounds-conditions-end-2 c) ∙ c.telegram_bits-n.ensures;
}

pub returns : goal.returns
returns c =
    let a = c.args in record {
      value = c.conditions.ensures
          ∙ ap (meets_conditions a.format) (completed a.format _ c.telegram_bits-n.ensures _ c.requires.format_in_bounds a.tail _ c.write_tail.ensures);
      telegram_unchanged = data_kept a.format _ c.telegram_bits-n.ensures _ c.requires.format_in_bounds a.tail _ c.write_tail.ensures;
    }
