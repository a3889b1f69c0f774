-- `quick_encoder::search::shaping_for` meets its contract: a B is dropped where no esb completes its shaped data, and otherwise they are tried.
-- Assumes nothing.
use mathlib.Core.Path.{◌≡◌, refl, sym, ap, subst, ◌∙◌}
use mathlib.Core.List.{List, ◌++◌}
use Prim.Native.Nat.{ℕ, ◌-◌, ◌*◌}
use native.Mathlib.Omega.{arith}
use lib.Dec.{T}
use lib.ListN.{length, take, drop}
use Rattle.bits.specs.Bits.{all_bits}
use Rattle.bits.proofs.Parts.{front_is}
use Rattle.formats.specs.declared.format.Format.{Format}
use Rattle.formats.specs.Numbers.{numbers_of, blocks}
use Rattle.formats.proofs.Sizes.{sizes_of}
use Rattle.scrambling.specs.Scrambling.{scrambled}
use Rattle.telegrams.specs.Telegram.{shaped}
use Rattle.telegrams.proofs.Shaping.{length-shaped, bits_shaped}
use Rattle.quick_encoder.specs.ShapedData.{data_within}
use Rattle.quick_encoder.specs.PairFrom.{shaping_from, shaping_at}
use Rattle.quick_encoder.proofs.Dropped.{first_word_drops, run_drops}
use Rattle.quick_encoder.proofs.OneScrambling.{shaping-none}
use Rattle.quick_encoder.proofs.search.shaping_for.Goals as goal

module _ (format : Format) (B : ℕ) (summed : List ℕ) where
  -- the shaped data
  abbrev data_of : List ℕ
  data_of = shaped (blocks (numbers_of format)) (scrambled B summed)

  data_size : length data_of ≡ 11 * blocks (numbers_of format)
  data_size = length-shaped (blocks (numbers_of format)) (scrambled B summed)

  module _ (n : ℕ) (old t : List ℕ) (n_is : n ≡ (numbers_of format).n) (e : t ≡ data_of ++ drop (11 * blocks (numbers_of format)) old) where
    -- it stands in front of the buffer
    in_front : take (n - 110) t ≡ data_of
    in_front = front_is data_of (drop (11 * blocks (numbers_of format)) old) t (n - 110) (omega (arith, data_size, (sizes_of format).n_is)) e

    front_bits : T (all_bits (take (n - 110) t))
    front_bits = subst (λ (l : List ℕ). T (all_bits l)) (sym in_front) (bits_shaped (blocks (numbers_of format)) (scrambled B summed))

    front_size : length (take (n - 110) t) ≡ 11 * blocks (numbers_of format)
    front_size = ap length in_front ∙ data_size

pub returns-then-not-in_table : goal.returns-then-not-in_table
returns-then-not-in_table c =
    let a = c.args in
    let absent = sym c.in_table.ensures ∙ c.if-not-in_table.true in
    sym (ap shaping_at (shaping-none a.summed.format (data_of a.summed.format a.pair.scrambling a.summed.bits.now) a.pair.scrambling a.pair.shaping
    (omega (arith, c.requires.pair_bound))
    λ e below. first_word_drops a.summed.format _ a.pair.scrambling e (data_size a.summed.format a.pair.scrambling a.summed.bits.now) c.requires.pair_bound.0 absent))

pub overflow_sub-at : goal.overflow_sub-at
overflow_sub-at c = omega (arith, (sizes_of c.args.summed.format).n_is)

pub slice_bounds-within-end-2 : goal.slice_bounds-within-end-2
slice_bounds-within-end-2 c =
    let a = c.args in
    sym (front_size a.summed.format a.pair.scrambling a.summed.bits.now _ _ _ c.telegram_bits-n.ensures c.write_shaped_data.ensures
    ∙ omega (arith, (sizes_of a.summed.format).n_is))

pub within-requires : goal.within-requires
within-requires c =
    let a = c.args in (
      front_bits a.summed.format a.pair.scrambling a.summed.bits.now _ _ _ c.telegram_bits-n.ensures c.write_shaped_data.ensures,
      front_size a.summed.format a.pair.scrambling a.summed.bits.now _ _ _ c.telegram_bits-n.ensures c.write_shaped_data.ensures,
    )

pub returns-then-not-within : goal.returns-then-not-within
returns-then-not-within c =
    let a = c.args in
    let front = in_front a.summed.format a.pair.scrambling a.summed.bits.now _ _ _ c.telegram_bits-n.ensures c.write_shaped_data.ensures in
    let over = ap (data_within a.summed.format) (sym front) ∙ sym c.within.ensures ∙ c.if-not-within.true in
    sym (ap shaping_at (shaping-none a.summed.format (data_of a.summed.format a.pair.scrambling a.summed.bits.now) a.pair.scrambling a.pair.shaping
    (omega (arith, c.requires.pair_bound))
    λ e below. run_drops a.summed.format _ a.pair.scrambling e (data_size a.summed.format a.pair.scrambling a.summed.bits.now) over))

pub first_shaping-requires : goal.first_shaping-requires
first_shaping-requires c =
    let a = c.args in
    record {
      format_in_bounds = omega (arith, c.requires.room, c.write_shaped_data.auto.telegram);
      are_bits = front_bits a.summed.format a.pair.scrambling a.summed.bits.now _ _ _ refl c.write_shaped_data.ensures;
      pair_bound = c.requires.pair_bound;
    }

pub returns : goal.returns
returns c =
    let a = c.args in
    c.first_shaping.ensures
    ∙ ap (λ (d : List ℕ). shaping_at (shaping_from a.summed.format d a.pair.scrambling a.pair.shaping))
    (in_front a.summed.format a.pair.scrambling a.summed.bits.now _ _ _ refl c.write_shaped_data.ensures)
