-- `conditions::run::within` meets its contract: the words of the ring, and as many more as the limit, decide. Assumes nothing.
use mathlib.Core.Path.{◌≡◌, sym, ap, ◌∙◌}
use mathlib.Core.List.{List, ◌++◌}
use Prim.Native.Nat.{ℕ, ◌+◌, ◌-◌, ◌*◌, ◌<◌}
use native.Mathlib.Omega.{arith}
use lib.Dec.{leb}
use lib.ListN.{length}
use Rattle.conditions.specs.Runs.{valid_words, longest, longest_round}
use Rattle.conditions.proofs.Longest.{round_once_more}
use Rattle.conditions.proofs.Round.{length-valid_words, valid_words-append, valid_words_period}
use Rattle.conditions.proofs.run.within.Goals as goal

-- the ring once, and as many words more as the limit
once_and_limit : (words limit p : ℕ) (b : List ℕ) → 11 * words ≡ length b → limit < words
    → leb (longest_round (valid_words words p b)) limit ≡ leb (longest (valid_words (words + limit) p b)) limit
once_and_limit words limit p b fill below =
    let y = valid_words limit p b in
    let z = valid_words (words - limit) (p + 11 * limit) b in
    let count : limit + (words - limit) ≡ words = omega arith in
    let cut : valid_words words p b ≡ y ++ z = ap (λ (k : ℕ). valid_words k p b) (sym count) ∙ valid_words-append limit (words - limit) p b in
    let again : valid_words limit (p + 11 * words) b ≡ y = rw fill (valid_words_period limit p b) in
    rw (valid_words-append words limit p b, again, cut) (round_once_more limit y z (omega (arith, length-valid_words limit p b)))

pub returns : goal.returns
returns c =
    let a = c.args in
    rw (once_and_limit a.words a.limit a.p a.b.now c.requires.words_value.0 c.requires.words_value.1) c.none_over.ensures
