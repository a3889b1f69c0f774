-- `captures::test` meets its contract, test by test. Assumes nothing.
use mathlib.Core.Path.{◌≡◌, sym, ◌∙◌}
use mathlib.Core.Bool.{true}
use Prim.Native.Nat.{◌≤◌, ◌<◌}
use native.Mathlib.Omega.{arith}
use borrow.Author.Tests.{le-leb, lt-leb}
use lib.ListN.{length}
use Rattle.bits.specs.Bits.{all_bits}
use Rattle.bits.proofs.Tests.{holds}
use Rattle.refusals.proofs.Table.{passed, failed}
use Rattle.captures.specs.Captures.{capture_limit, search_read_table}
use Rattle.captures.proofs.Steps.{read_decided}
use Rattle.captures.proofs.test.Goals as goal

pub returns-then-capture-gt-LIMIT : goal.returns-then-capture-gt-LIMIT
unfolding search_read_table
returns-then-capture-gt-LIMIT c out room =
    let s = c.args.capture.now in
    let over : capture_limit < length s = omega arith in
    read_decided s out _ (failed (lt-leb (length s) capture_limit over))

pub returns-then-not-all_bits : goal.returns-then-not-all_bits
unfolding search_read_table
returns-then-not-all_bits c out room =
    let within : length c.args.capture.now ≤ capture_limit = omega arith in
    read_decided _ out _
    (passed (le-leb _ capture_limit (within)) (failed (sym c.all_bits.ensures ∙ c.if-not-all_bits.true)))

pub returns-then-room-lt-M : goal.returns-then-room-lt-M
unfolding search_read_table
returns-then-room-lt-M c out room =
    let within : length c.args.capture.now ≤ capture_limit = omega arith in
    let bits : all_bits c.args.capture.now ≡ true = sym c.all_bits.ensures ∙ c.if-not-all_bits.false in
    let less : length out < 830 = omega arith in
    read_decided _ out _
    (passed (le-leb _ capture_limit (within)) (passed (bits) (failed (lt-leb 830 (length out) less))))

pub returns : goal.returns
returns c out room =
    let within : length c.args.capture.now ≤ capture_limit = omega arith in
    let bits : all_bits c.args.capture.now ≡ true = sym c.all_bits.ensures ∙ c.if-not-all_bits.false in
    record { within = within; bits = holds _ (bits); room = omega arith }
