-- `cyclic::divisors::unturned` meets its contract. Assumes nothing.
use Rattle.std.proofs.Common.{sym}
use Rattle.cyclic.proofs.Machine.Tests.{unturned_number}
use Rattle.cyclic.proofs.divisors.unturned.Goals as goal

pub returns : goal.returns
returns c =
    let f = c.remainder_f-rest in
    sym (unturned_number c.args.format c.args.bits.now c.requires f.result c.unturned.result f.ensures.value
    c.unturned.ensures)
