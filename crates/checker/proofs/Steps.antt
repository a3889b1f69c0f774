-- What checking answers, by the verdict of its table (document 01, "When the bench says no"). Assumes nothing.
use Prim.Native.Nat.{ℕ}
use mathlib.Core.Path.{◌≡◌, refl, ap}
use mathlib.Core.List.{List}
use lib.ListN.{length}
use Rattle.formats.specs.declared.format.Format.{Format}
use Rattle.formats.specs.Numbers.{Numbers, numbers_of}
use Rattle.formats.proofs.Fits.{picks, telegrams_apart}
use Rattle.refusals.specs.declared.Refusal.{Refusal}
use Rattle.refusals.specs.Table.{Verdict, answer_by}
use Rattle.refusals.proofs.Table.{Decides}
use Rattle.checker.specs.Checking.{format_of, check_table, check_as, check_of}
use Rattle.std.specs.Prelude.{Ok, Err}

pub decided : (format : Format) (b : List ℕ) (v : Verdict Refusal) → Decides (check_table format b) v
    → check_as format b ≡ answer_by Err (Ok format) v
unfolding check_as
decided format b v d = ap (answer_by Err (Ok format)) d.verdict_is

-- any bytes are held to the format that their number picks
pub any_bytes : (b : List ℕ) → check_of b ≡ check_as (format_of b) b
unfolding check_of
any_bytes b = refl

pub format_is : (format : Format) (b : List ℕ) → length b ≡ (numbers_of format).n → format_of b ≡ format
format_is format b = picks (λ (F : Numbers). F.n) telegrams_apart format (length b)
