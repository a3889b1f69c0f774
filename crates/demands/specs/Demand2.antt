-- Demand 2 (the request; document 02, No. 2), about encoding and reading themselves, whose telegrams are those of document 01.
-- Assumes nothing.
use Rattle.std.specs.Prelude.{ℕ, List}
use Rattle.formats.specs.declared.format.Format.{Format}
use Rattle.encoder.specs.Encodes.{CleanBlock, EncodesFirst}
use Rattle.reader.specs.declared.Asked.TheVariants.{Proper}
use Rattle.reader.specs.ReadsExactly.{LentWindow, ReadsExactly}

pub record Demand2 : Type 0 where
  -- "Lent clean input and room for the answer, the encoder gives the first pair ..., and says there is none exactly when none ... does."
  pub encoder : (format : Format) (u out : List ℕ) → CleanBlock format u out → EncodesFirst format u out
  -- "On the same terms the reader accepts a window exactly when ..., and gives what that telegram carries.", of proper telegrams
  pub reader : (format : Format) (w out : List ℕ) → LentWindow format w out → ReadsExactly Proper format w out
