-- `quick_encoder::search::first_tail` meets its contract, by those of `settle` and `tail_of`. Assumes nothing.
use mathlib.Core.Path.{ap, ◌∙◌}
use mathlib.Core.List.{List, ◌++◌, append_assoc}
use Prim.Native.Nat.{ℕ, ◌-◌}
use native.Mathlib.Omega.{arith}
use lib.ListN.{take, drop}
use lib.Seq.{length-take-le}
use Rattle.bits.proofs.Parts.{front_is}
use Rattle.formats.specs.Numbers.{numbers_of}
use Rattle.telegrams.specs.Telegram.{settings}
use Rattle.quick_encoder.specs.Tail.{tail_of}
use Rattle.quick_encoder.proofs.search.first_tail.Goals as goal

pub returns : goal.returns
unfolding tail_of
returns c =
    let a = c.args in
    let n = (numbers_of a.format).n in
    let d = take (n - 110) a.telegram.now in
    let w = settings a.pair.scrambling a.pair.shaping in
    let rest = drop (n - 85) a.telegram.now in record {
      result_value = c.tail_of.ensures ∙ ap (λ (l : List ℕ). w ++ l) c.settle-check.ensures.result_value;
      telegram_unchanged = front_is d (w ++ rest) _ (n - 110) (length-take-le (n - 110) a.telegram.now (omega (arith, c.requires.format_in_bounds)))
          (c.settle-check.ensures.telegram_after ∙ append_assoc d w rest);
    }
