-- `telegrams::making::write_settings` meets its contract: three numbers are written, each after the other. Assumes nothing.
use mathlib.Core.Path.{◌≡◌, refl, ap, ◌∙◌}
use mathlib.Core.List.{List, ◌++◌, append_assoc}
use Prim.Native.Nat.{ℕ}
use native.Mathlib.Omega.{arith}
use lib.ListN.{length, drop, length-append}
use Rattle.bits.specs.Bits.{bits_of}
use Rattle.bits.proofs.Numbers.{length-bits_of}
use Rattle.telegrams.specs.Telegram.{control, settings}
use Rattle.telegrams.proofs.Buffers.Fronts.{front_more}
use Rattle.telegrams.proofs.making.write_settings.Goals as goal

-- the control bits
control_bits : bits_of 3 1 ≡ control
unfolding bits_of
control_bits = refl

pub returns : goal.returns
unfolding settings
returns c =
    let a = c.args in
    let old = a.out.now in
    let sb = bits_of 12 a.pair.scrambling in
    let esb = bits_of 10 a.pair.shaping in
    let one = c.write_number.ensures ∙ ap (λ (l : List ℕ). l ++ drop 3 old) control_bits in
    let two = front_more control sb old c.write_number.new.out c.write_number-2.new.out 3 12 refl one c.write_number-2.ensures in
    let size : length (control ++ sb) ≡ 15 = length-append control sb ∙ omega (arith, length-bits_of 12 a.pair.scrambling) in
    front_more (control ++ sb) esb old _ c.write_number-3.new.out 15 10 size two c.write_number-3.ensures
    ∙ ap (λ (l : List ℕ). l ++ drop 25 old) (append_assoc control sb esb)
