-- `encoder::write_found` meets its contract, by that of `make`. Assumes nothing.
use mathlib.Core.Path.{sym, ◌∙◌}
use Rattle.encoder.specs.Encoding.{first_pair}
use Rattle.encoder.proofs.Pairs.{searched_pair, searched_none}
use Rattle.encoder.proofs.Steps.{pair_given, none_refused}
use Rattle.encoder.proofs.write_found.Goals as goal

pub returns-in_default : goal.returns-in_default
returns-in_default c =
    let a = c.args in
    none_refused a.block.format a.block.bits.now a.output.now (record { bits = c.args.block.are_bits; size = c.args.block.size; room = c.requires.room })
    (searched_none (first_pair a.block.format a.block.bits.now) (sym c.requires.first_value ∙ c.in_default.is))

pub returns : goal.returns
returns c =
    let a = c.args in
    let B = c.in-Some.pair.scrambling in
    let esb = c.in-Some.pair.shaping in
    let found = searched_pair (first_pair a.block.format a.block.bits.now) B esb (sym c.requires.first_value ∙ c.in-Some.is) in
    rw c.make.ensures (pair_given a.block.format a.block.bits.now a.output.now (record { bits = c.args.block.are_bits; size = c.args.block.size; room = c.requires.room }) B esb found.0 found.1)
