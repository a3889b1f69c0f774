-- `lister::just_after` meets its contract, case by case. Assumes nothing.
use mathlib.Core.Path.{sym}
use native.Mathlib.Omega.{arith}
use Rattle.lister.proofs.JustAfter.{next-shaping, next-scrambling, last_ended}
use Rattle.lister.proofs.just_after.Goals as goal

pub returns-then-pair-lt1023 : goal.returns-then-pair-lt1023
returns-then-pair-lt1023 c = let a = c.args in sym (next-shaping a.pair.scrambling a.pair.shaping (omega arith))

pub returns-then-pair-lt4095 : goal.returns-then-pair-lt4095
returns-then-pair-lt4095 c = let a = c.args in sym (next-scrambling a.pair.scrambling a.pair.shaping (omega arith) (omega arith))

pub returns : goal.returns
returns c = let a = c.args in sym (last_ended a.pair.scrambling a.pair.shaping (omega arith) (omega arith))
