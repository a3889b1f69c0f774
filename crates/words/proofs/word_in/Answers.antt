-- `words::word_in` meets its contract. Assumes nothing.
use mathlib.Core.Path.{ap, subst⁻¹}
use mathlib.Core.List.{List}
use Prim.Native.Nat.{ℕ, ◌<◌}
use lib.ListN.{length, get_or}
use Rattle.words.specs.Words.{word_of}
use Rattle.words.proofs.Rules.{within}
use Rattle.words.proofs.word_in.Goals as goal

pub bounds-entries-i : goal.bounds-entries-i
bounds-entries-i c =
    let i = c.args.i in
    subst⁻¹ (λ (l : List ℕ). i < length l) c.requires.0 (within i c.requires.1)

pub returns : goal.returns
unfolding word_of
returns c = ap (λ (l : List ℕ). get_or l c.args.i 0) c.requires.0
