-- `texts::reading::character_of` meets its contract. Assumes nothing.
use Rattle.std.proofs.Common.{arith}
use Rattle.std.proofs.lemmas.Grind.{common_steps}
use Rattle.texts.specs.Reading.{character_of}
use Rattle.texts.proofs.reading.character_of.Goals as goal

pub returns-in-48 : goal.returns-in-48
unfolding character_of
returns-in-48 c = grind (arith, common_steps)

pub returns-in-49 : goal.returns-in-49
unfolding character_of
returns-in-49 c = grind (arith, common_steps)

pub returns-in-10 : goal.returns-in-10
unfolding character_of
returns-in-10 c = grind (arith, common_steps)

pub returns-in_default : goal.returns-in_default
unfolding character_of
returns-in_default c = grind (arith, common_steps)
