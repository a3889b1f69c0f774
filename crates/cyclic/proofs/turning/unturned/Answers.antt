-- `cyclic::turning::unturned` meets its contract, by computation. Assumes nothing.
use Rattle.std.proofs.Common.{ℕ, sym, ap, ◌∙◌}
use Rattle.bits.specs.Bits.{number_of}
use Rattle.formats.specs.declared.format.Format.{Format}
use Rattle.formats.specs.Numbers.{numbers_of}
use Rattle.cyclic.specs.Check.{turn_remainder}
use Rattle.cyclic.proofs.Machine.Turns.{unturned-long, unturned-short}
use Rattle.cyclic.proofs.turning.unturned.Goals as goal

asked : Format → ℕ
asked x = number_of (turn_remainder (numbers_of x) 0)

pub returns-in-Long : goal.returns-in-Long
unfolding asked
returns-in-Long c = unturned-long ∙ ap asked (sym c.in-Long.is)

pub returns-in-Short : goal.returns-in-Short
unfolding asked
returns-in-Short c = unturned-short ∙ ap asked (sym c.in-Short.is)
