-- A telegram is as asked where it is well-formed and none of the conditions that are asked for fails. Assumes nothing.
use Prim.Native.Nat.{ℕ}
use mathlib.Core.Path.{◌≡◌, refl}
use mathlib.Core.List.{List}
use mathlib.Core.Logic.{◌↔◌}
use lib.Dec.{T}
use Rattle.formats.specs.declared.format.Format.{Format}
use Rattle.formats.specs.Numbers.{numbers_of}
use Rattle.refusals.specs.Table.{accepted, verdict}
use Rattle.telegrams.specs.Fields.{well_formed}
use Rattle.conditions.proofs.FirstFailing.{proper_tested}
use Rattle.reader.specs.declared.Asked.{Asked}
use Rattle.reader.specs.declared.Asked.TheVariants.{WellFormed, Proper}
use Rattle.reader.specs.Reads.{asked_table}
use Rattle.reader.specs.CutFrom.{is_asked}

pub asked_tested : (asked : Asked) (format : Format) (b : List ℕ)
    → T (is_asked asked format b) ↔ (T (well_formed (numbers_of format) b) × (verdict (asked_table asked format b) ≡ accepted))
unfolding verdict
asked_tested WellFormed format b = (λ h. (h, refl), λ p. p.0)
asked_tested Proper format b = proper_tested format b
