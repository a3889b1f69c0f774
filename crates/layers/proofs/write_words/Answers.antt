-- `layers::write_words` meets its contract: the high and the low word are those of their number. Assumes nothing.
use borrow.Author.Rules.{rules}
use mathlib.Core.List.{[], ◌∷◌}
use Prim.Native.Nat.{◌<◌, ◌^◌}
use lib.Pow.{high, low}
use lib.Seq.{sets-eq}
use Rattle.layers.proofs.write_words.Goals as goal

pub returns : goal.returns
returns c =
    let r = c.args.r in
    let fits : r.low < 2 ^ 64 = search rules in
    rw (high r.high 64 fits, low r.high 64 fits) (sets-eq (r.high ∷ r.low ∷ []) c.args.out.now 0 c.requires)
