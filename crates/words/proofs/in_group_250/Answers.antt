-- `words::in_group_250` meets its contract: the tests are those of the definition. Assumes nothing.
use Rattle.std.proofs.Common.{arith}
use Rattle.std.proofs.lemmas.Bool.Decides.{nat_tests}
use Rattle.words.specs.Words.{in_group250}
use Rattle.words.proofs.in_group_250.Goals as goal

pub returns-then-matches-2 : goal.returns-then-matches-2
unfolding in_group250
returns-then-matches-2 c = grind (arith, nat_tests)

pub returns-in-1025 : goal.returns-in-1025
unfolding in_group250
returns-in-1025 c = grind (arith, nat_tests)

pub returns-in_default-matches-2 : goal.returns-in_default-matches-2
unfolding in_group250
returns-in_default-matches-2 c = grind (arith, nat_tests)

pub returns-else-word-lt2048 : goal.returns-else-word-lt2048
unfolding in_group250
returns-else-word-lt2048 c = grind (arith, nat_tests)
