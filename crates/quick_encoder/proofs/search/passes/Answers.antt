-- `quick_encoder::search::passes` meets its contract: the words decide, or the conditions. Assumes nothing.
use mathlib.Core.Path.{◌≡◌, refl, sym, ◌∙◌}
use mathlib.Core.Bool.{true, false}
use mathlib.Core.List.{List}
use Prim.Native.Nat.{ℕ, ◌-◌}
use native.Mathlib.Omega.{arith}
use lib.ListN.{length, take}
use lib.Seq.{length-take-le}
use Rattle.formats.specs.Numbers.{numbers_of}
use Rattle.quick_encoder.specs.Tail.{tail_bits}
use Rattle.quick_encoder.proofs.Completing.{words_decide}
use Rattle.quick_encoder.proofs.search.passes.Goals as goal

pub returns-then-not-all_words : goal.returns-then-not-all_words
returns-then-not-all_words c =
    let shaped_in : List ℕ = take ((numbers_of c.args.format).n - 110) c.args.telegram.now in
    let data_size : length (shaped_in) ≡ (numbers_of c.args.format).n - 110 = length-take-le ((numbers_of c.args.format).n - 110) c.args.telegram.now (omega (arith, c.requires.format_in_bounds)) in
    record {
      value = sym (words_decide c.args.format (shaped_in) (tail_bits c.args.tail) (data_size) false (sym c.all_words.ensures ∙ c.if-not-all_words.true));
      telegram_unchanged = refl;
    }

pub returns : goal.returns
returns c =
    let shaped_in : List ℕ = take ((numbers_of c.args.format).n - 110) c.args.telegram.now in
    let data_size : length (shaped_in) ≡ (numbers_of c.args.format).n - 110 = length-take-le ((numbers_of c.args.format).n - 110) c.args.telegram.now (omega (arith, c.requires.format_in_bounds)) in
    let all = sym c.all_words.ensures ∙ c.if-not-all_words.false in record {
      value = c.meets_conditions.ensures.value ∙ sym (words_decide c.args.format (shaped_in) (tail_bits c.args.tail) (data_size) true all);
      telegram_unchanged = c.meets_conditions.ensures.telegram_unchanged;
    }
