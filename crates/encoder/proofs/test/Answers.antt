-- `encoder::test` meets its contract, test by test. Assumes nothing.
use mathlib.Core.Path.{◌≡◌, sym, ◌∙◌}
use mathlib.Core.Bool.{true}
use native.Mathlib.Omega.{arith}
use lib.ListN.{length}
use Rattle.bits.specs.Bits.{all_bits}
use Rattle.bits.proofs.Tests.{holds}
use Rattle.formats.specs.declared.format.Format.{Format}
use Rattle.formats.specs.Numbers.{numbers_of}
use Rattle.encoder.proofs.Steps.{length_refused, bits_refused, room_refused}
use Rattle.encoder.proofs.test.Goals as goal

pub returns-then-block-user_bits : goal.returns-then-block-user_bits
returns-then-block-user_bits c out room =
    let format : Format = c.of_length-format.result in
    length_refused (format) c.args.block.now out c.of_length-format.ensures (λ e. omega arith)

pub returns-then-not-all_bits : goal.returns-then-not-all_bits
returns-then-not-all_bits c out room =
    let format : Format = c.of_length-format.result in
    let size : length c.args.block.now ≡ (numbers_of (format)).m = omega arith in
    bits_refused (format) c.args.block.now out (size)
    (sym c.all_bits.ensures ∙ c.if-not-all_bits.true)

pub returns-then-room-telegram_bits : goal.returns-then-room-telegram_bits
returns-then-room-telegram_bits c out room =
    let format : Format = c.of_length-format.result in
    let size : length c.args.block.now ≡ (numbers_of (format)).m = omega arith in
    let all : all_bits c.args.block.now ≡ true = sym c.all_bits.ensures ∙ c.if-not-all_bits.false in
    room_refused (format) c.args.block.now out (size) (all) (omega arith)

pub returns : goal.returns
returns c out room =
    let format : Format = c.of_length-format.result in
    let size : length c.args.block.now ≡ (numbers_of (format)).m = omega arith in
    let all : all_bits c.args.block.now ≡ true = sym c.all_bits.ensures ∙ c.if-not-all_bits.false in
    record { bits = holds _ (all); size = size; room = omega arith }
