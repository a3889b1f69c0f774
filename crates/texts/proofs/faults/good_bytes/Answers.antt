-- `texts::faults::good_bytes` meets its contract. The loop's invariant: the bytes passed are good, and left is the room that they leave.
-- Assumes nothing.
use Rattle.std.proofs.Common.{◌≡◌, ℕ, suc, ◌+◌, ◌<◌, ◌≤◌, cond, List, length, drop, get_or, arith}
use Rattle.std.proofs.lemmas.Bool.Decides.{nat_tests}
use Rattle.std.proofs.lemmas.List.{at_drop_more, at_drop_all}
use Rattle.texts.specs.Reading.{character_of}
use Rattle.texts.specs.Faults.{is_fault, room_after, good_bytes}
use Rattle.texts.proofs.faults.good_bytes.Goals as goal
use Rattle.texts.proofs.faults.good_bytes.Goals.{in-Bit+else-left-eq0, in-Skipped}

-- the good bytes from one that comes next
from_next : (text : List ℕ) (left i : ℕ) → i < length text → let x = character_of (get_or text i 0) in
    good_bytes left (drop i text) ≡ cond (is_fault left x) 0 (suc (good_bytes (room_after left x) (drop (i + 1) text)))
unfolding good_bytes
from_next text left i h = at_drop_more (good_bytes left) text i 0 h

-- all bytes are passed
from_end : (text : List ℕ) (left i : ℕ) → length text ≤ i → good_bytes left (drop i text) ≡ 0
unfolding good_bytes
from_end text left i h = at_drop_all (good_bytes left) text i h

pub returns-then-left-eq0 : goal.returns-then-left-eq0
returns-then-left-eq0 c =
    let e = from_next c.args.text.now c.loop-i.left c.loop-i.i c.loop-i-test.true in
    grind (arith, nat_tests)

pub returns-in-Other : goal.returns-in-Other
returns-in-Other c =
    let e = from_next c.args.text.now c.loop-i.left c.loop-i.i c.loop-i-test.true in
    grind (arith, nat_tests)

pub loop-i-preserved : goal.loop-i-preserved
loop-i-preserved c =
    let e = from_next c.args.text.now c.loop-i.left c.loop-i.i c.loop-i-test.true in
    elim c.match-character_of.branch [
      | in-Bit+else-left-eq0 w ↦ grind (arith, nat_tests)
      | in-Skipped w ↦ grind (arith, nat_tests)
    ]

pub returns : goal.returns
returns c = omega (arith, from_end c.args.text.now c.loop-i.left c.loop-i.i c.loop-i-test.false)
