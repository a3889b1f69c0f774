-- `quick_search::pairs::agreed_from` meets its contract. The loop's invariant: the pairs from a up to the end agree. Assumes nothing.
use Prim.Native.Nat.{◌≤◌}
use Rattle.quick_search.specs.Pairs.{PairsAgree}
use Rattle.quick_search.proofs.pairs.agreed_from.Given as goal

abbrev pub invariant-loop-a : goal.invariant-loop-a
invariant-loop-a l = (l.first ≤ l.a) × PairsAgree l.n l.capture l.a l.end
