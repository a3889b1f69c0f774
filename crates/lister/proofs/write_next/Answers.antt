-- `lister::write_next` meets its contract, by those of the search and of `make`. Assumes nothing.
use mathlib.Core.Path.{sym, ap, ◌∙◌}
use Prim.Native.Nat.{◌+◌, ◌*◌}
use native.Mathlib.Omega.{arith}
use Rattle.refusals.specs.Outcome.{outcome}
use Rattle.encoder.proofs.Pairs.{searched_pair, searched_none}
use Rattle.quick_encoder.specs.PairFrom.{pair_from}
use Rattle.lister.proofs.Steps.{pair_given, none_given}
use Rattle.lister.proofs.write_next.Goals as goal
use Rattle.std.specs.Prelude.{Some, Ok}
use Rattle.lister.specs.Listing.{listed_with}

pub pair_from-requires : goal.pair_from-requires
pair_from-requires c = let h = c.requires in record {
  are_bits = h.bits;
  block_len = h.size;
  pair_bound = (omega (arith, h.scrambling), omega (arith, h.shaping));
}

pub invariant_of-make : goal.invariant_of-make
invariant_of-make c = record { are_bits = c.requires.bits; size = c.requires.size }

pub returns-in_err-pair : goal.returns-in_err-pair
returns-in_err-pair c =
    rw c.from_residual.ensures (none_given _ _ _ _ _ c.requires (searched_none _ (sym c.pair_from.ensures ∙ c.in_err-pair.was)))

pub returns : goal.returns
returns c =
    let a = c.args in
    let C = c.in_ok-pair.pair.scrambling in
    let e = c.in_ok-pair.pair.shaping in
    let is = searched_pair (pair_from a.format a.block.now (1024 * a.from.scrambling + a.from.shaping)) C e (sym c.pair_from.ensures ∙ c.in_ok-pair.was) in
    pair_given a.format a.block.now a.from.scrambling a.from.shaping a.output.now c.requires C e is.0 is.1
    ∙ ap (outcome (Ok (Some (listed_with a.format C e)))) (sym c.make.ensures)
