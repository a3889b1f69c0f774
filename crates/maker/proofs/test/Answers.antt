-- `maker::test` meets its contract, test by test. Assumes nothing.
use mathlib.Core.Path.{◌≡◌, sym, ◌∙◌}
use mathlib.Core.Bool.{true}
use native.Mathlib.Omega.{arith}
use lib.ListN.{length}
use Rattle.bits.specs.Bits.{all_bits}
use Rattle.formats.specs.declared.format.Format.{Format}
use Rattle.formats.specs.Numbers.{numbers_of}
use Rattle.telegrams.specs.Telegram.{is_pair}
use Rattle.maker.proofs.PairTests.{length_refused, bits_refused, pair_refused, room_refused, tests_clean}
use Rattle.maker.proofs.test.Goals as goal

pub returns-then-block-user_bits : goal.returns-then-block-user_bits
returns-then-block-user_bits c =
    let format : Format = c.of_length-format.result in
    let a = c.args in
    length_refused (format) a.block.now a.b a.esb a.room c.of_length-format.ensures (λ e. omega arith)

pub returns-then-not-all_bits : goal.returns-then-not-all_bits
returns-then-not-all_bits c =
    let format : Format = c.of_length-format.result in
    let size : length c.args.block.now ≡ (numbers_of (format)).m = omega arith in
    let a = c.args in
    bits_refused (format) a.block.now a.b a.esb a.room (size)
    (sym c.all_bits.ensures ∙ c.if-not-all_bits.true)

pub returns-then-not-is_pair : goal.returns-then-not-is_pair
returns-then-not-is_pair c =
    let format : Format = c.of_length-format.result in
    let size : length c.args.block.now ≡ (numbers_of (format)).m = omega arith in
    let all : all_bits c.args.block.now ≡ true = sym c.all_bits.ensures ∙ c.if-not-all_bits.false in
    let a = c.args in
    pair_refused (format) a.block.now a.b a.esb a.room (size) (all)
    (sym c.is_pair.ensures ∙ c.if-not-is_pair.true)

pub returns-then-room-telegram_bits : goal.returns-then-room-telegram_bits
returns-then-room-telegram_bits c =
    let format : Format = c.of_length-format.result in
    let size : length c.args.block.now ≡ (numbers_of (format)).m = omega arith in
    let all : all_bits c.args.block.now ≡ true = sym c.all_bits.ensures ∙ c.if-not-all_bits.false in
    let pair : let a = c.args in is_pair a.b a.esb ≡ true = sym c.is_pair.ensures ∙ c.if-not-is_pair.false in
    let a = c.args in
    room_refused (format) a.block.now a.b a.esb a.room (size) (all) (pair) (omega arith)

pub returns : goal.returns
returns c =
    let format : Format = c.of_length-format.result in
    let size : length c.args.block.now ≡ (numbers_of (format)).m = omega arith in
    let all : all_bits c.args.block.now ≡ true = sym c.all_bits.ensures ∙ c.if-not-all_bits.false in
    let pair : let a = c.args in is_pair a.b a.esb ≡ true = sym c.is_pair.ensures ∙ c.if-not-is_pair.false in
    let a = c.args in
    tests_clean (format) a.block.now a.b a.esb a.room (size) (all) (pair) (omega arith)
