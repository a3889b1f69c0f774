-- `texts::input::read_some` meets its contract. Assumes nothing.
use Rattle.texts.proofs.SomeText.{some_none, some_failed}
use Rattle.texts.proofs.FirstFault.{fault_in_part}
use Rattle.texts.proofs.input.read_some.Goals as goal

pub returns-in_default : goal.returns-in_default
returns-in_default g c =
    let b = c.args.bits.now in
    let count = c.args.so_far.count in
    some_failed count count b b (some_none count b c.requires)

pub returns-then-n-eq0 : goal.returns-then-n-eq0
returns-then-n-eq0 g c = some_none c.args.so_far.count c.args.bits.now c.requires

pub print_fault-requires : goal.print_fault-requires
print_fault-requires g c =
    fault_in_part c.args.bits.now c.args.so_far.count _ c.take_text.new.bits c.requires c.take_text.auto.bits c.in_default-take_text.ensures
