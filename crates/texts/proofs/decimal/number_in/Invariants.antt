-- `texts::decimal::number_in` meets its contract. The loop's invariant: the number of the text is that of the digits passed with the rest of
-- the digits after it. Assumes nothing.
use Rattle.std.proofs.Common.{◌≡◌, ◌^◌, ◌<◌, drop}
use Rattle.texts.specs.Decimal.{digits_from}
use Rattle.texts.proofs.decimal.number_in.Given as goal

abbrev pub invariant-loop-byte : goal.invariant-loop-byte
invariant-loop-byte l = (l.number < 10 ^ l.byte-index) × (digits_from 0 l.text ≡ digits_from l.number (drop l.byte-index l.text))
