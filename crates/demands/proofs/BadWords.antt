-- Check of a telegram and reading of its windows name the same bad word (document 02, No. 13). Assumes nothing.
use Prim.Native.Nat.{ℕ, ◌≤◌, ◌<◌}
use mathlib.Core.Path.{◌≡◌, refl, sym, subst}
use mathlib.Core.Bool.{Bool}
use mathlib.Core.List.{List}
use lib.ListN.{length}
use Rattle.formats.specs.declared.format.Format.{Format}
use Rattle.formats.specs.Numbers.{numbers_of, window_bits}
use Rattle.words.specs.declared.BadWord.{BadWord}
use Rattle.refusals.specs.declared.Refusal.TheVariants.{NotWord}
use Rattle.refusals.specs.Outcome.{outcome}
use Rattle.telegrams.specs.Worded.{IsFirstBad, ControlAndCheck}
use Rattle.checker.specs.Checking.{format_of, check_of}
use Rattle.checker.proofs.Steps.{format_is}
use Rattle.checker.proofs.Exact.{checks}
use Rattle.reader.specs.declared.Asked.{Asked}
use Rattle.reader.specs.Windows.{cut}
use Rattle.reader.specs.Reads.{read_by}
use Rattle.reader.specs.ReadsExactly.{LentWindow}
use Rattle.reader.proofs.CutReads.{cut-found}
use Rattle.reader.proofs.NamesBadWord.{names_bad_word}
use Rattle.demands.specs.BadWords.{OfRefused, NamesAlike}
use Rattle.std.specs.Prelude.{Err}

windows : (b : List ℕ) (bad : BadWord) → check_of b ≡ Err (NotWord bad)
    → (asked : Asked) (t : ℕ) → t < (numbers_of (format_of b)).n → (flipped : Bool) (out : List ℕ) → (numbers_of (format_of b)).m ≤ length out
    → read_by asked (cut (window_bits (numbers_of (format_of b))) t flipped b) out ≡ outcome (Err (NotWord bad)) out
windows b bad e asked t below flipped out room =
    let format = format_of b in
    let w = cut (window_bits (numbers_of format)) t flipped b in
    let (but_words, first) = ((checks b).names bad).0 e in
    let size = (cut-found format b t flipped but_words below w refl).size in
    ((names_bad_word asked format w out (record { size = size; room = room })).names bad).1
    (record { telegram = b; but_words = but_words; first = first; t = t; flipped = flipped; turn = below; window = refl })

telegram : (asked : Asked) (format : Format) (w out : List ℕ) → LentWindow format w out
    → (bad : BadWord) → read_by asked w out ≡ outcome (Err (NotWord bad)) out → OfRefused format w bad
telegram asked format w out lent bad e =
    let c = ((names_bad_word asked format w out lent).names bad).0 e in
    let b = c.telegram in
    let named = subst (λ (f : Format). ControlAndCheck (numbers_of f) b × IsFirstBad (numbers_of f).words b bad) (sym (format_is format b c.but_words.size)) (c.but_words, c.first) in
    record { telegram = b; refused = ((checks b).names bad).1 named; t = c.t; flipped = c.flipped; window = c.window }

pub names_alike : NamesAlike
names_alike = record { windows = windows; telegram = telegram }
