-- `reader::turned::turn_back` meets its contract, by that of `copy`: first the last t bits, then the others. Assumes nothing.
use mathlib.Core.Path.{sym}
use Prim.Native.Nat.{◌-◌, ◌≤◌}
use native.Mathlib.Omega.{arith}
use lib.ListN.{length, length-drop}
use Rattle.telegrams.proofs.Buffers.Fronts.{lent_is}
use Rattle.reader.proofs.Parts.TurnedBack.{last_size, first_size, both_copied}
use Rattle.reader.proofs.turned.turn_back.Goals as goal

pub slice_bounds-copy-end-2 : goal.slice_bounds-copy-end-2
slice_bounds-copy-end-2 c =
    let within : length c.args.first.now - c.args.t ≤ length c.args.first.now = omega arith in
    let v = c.args.first.now in
    sym (first_size v (length v - c.args.t) (within))

pub copy-requires : goal.copy-requires
copy-requires c =
    let within : length c.args.first.now - c.args.t ≤ length c.args.first.now = omega arith in
    let v = c.args.first.now in
    let k = length v - c.args.t in
    rw (lent_is c.copy-at.result c.copy-at.new.out)
    (omega (arith, first_size v k (within), last_size v k (within), length-drop c.copy-at.result c.copy-at.new.out))

pub returns : goal.returns
returns c =
    let within : length c.args.first.now - c.args.t ≤ length c.args.first.now = omega arith in
    let v = c.args.first.now in
    let k = length v - c.args.t in
    both_copied v k (within) c.args.out.now c.copy-at.new.out c.copy.new.out c.copy-at.result
    c.copy-at.ensures.count c.copy-at.ensures.copied c.copy.ensures.copied
