-- A search for a run over a limit that begins at one of the first `starts` words, round a ring: it has passed i of them, stands at a place, and
-- what is left decides. Of the next limit + 1 words it passes those up to the last invalid one. Assumes nothing.
use mathlib.Core.Path.{◌≡◌, sym, ap, ap₂, ◌∙◌}
use mathlib.Core.Bool.{Bool, true, false}
use mathlib.Core.List.{List, ◌∷◌, ◌++◌}
use Prim.Native.Nat.{ℕ, suc, ◌+◌, ◌-◌, ◌*◌, ◌%◌, ◌≤◌, ◌<◌}
use native.Mathlib.Omega.{arith}
use borrow.Author.Tests.{le-leb, lt-leb}
use lib.Dec.{leb}
use lib.ListN.{length}
use Rattle.conditions.specs.Runs.{valid_words, longest_after, longest}
use Rattle.conditions.specs.UpToInvalid.{up_to_invalid}
use Rattle.conditions.proofs.Longest.{longest_least, longest_most, within_cut}
use Rattle.conditions.proofs.Round.{length-valid_words, valid_words-mod, valid_words-append, valid_words-one}
use Rattle.conditions.proofs.UpToInvalid.{invalid_there, all_valid}

pub record Sought (whole : Bool) (starts limit i at : ℕ) (b : List ℕ) : Type 0 where
  pub rest : whole ≡ leb (longest (valid_words (starts + limit - i) at b)) limit

module _ (starts limit : ℕ) (b : List ℕ) where
  -- none is passed
  pub sought_none : (p : ℕ) → Sought (leb (longest (valid_words (starts + limit) p b)) limit) starts limit 0 p b
  sought_none p =
      let all : starts + limit - 0 ≡ starts + limit = omega arith in
      record { rest = rw all }

  module _ (whole : Bool) (i at : ℕ) (h : Sought whole starts limit i at b) where
    -- all of the next limit + 1 words are valid
    pub sought_fails : i < starts → up_to_invalid (limit + 1) at b ≡ 0 → false ≡ whole
    sought_fails left none =
        let y = valid_words (starts - i - 1) (at + 11 * (limit + 1)) b in
        let count : starts + limit - i ≡ limit + 1 + (starts - i - 1) = omega arith in
        let run : longest (valid_words (starts + limit - i) at b) ≡ longest_after (0 + (limit + 1)) y =
        ap (λ (k : ℕ). longest (valid_words k at b)) count ∙ ap longest (valid_words-append (limit + 1) (starts - i - 1) at b)
        ∙ all_valid at b (limit + 1) 0 y none in
        sym (h.rest ∙ lt-leb _ limit (omega (arith, run, longest_least (0 + (limit + 1)) y)))

    -- the next words up to the last invalid one of limit + 1 are passed
    pub sought_more : (past : ℕ) → i < starts → 0 < past → up_to_invalid (limit + 1) at b ≡ past
        → Sought whole starts limit (i + past) ((at + 11 * past) % length b) b
    sought_more past left some e =
        let j = past - 1 in
        let k = starts + limit - (i + past) in
        let one : past ≡ suc j = omega arith in
        let there = invalid_there at b (limit + 1) j (e ∙ one) in
        let count : starts + limit - i ≡ j + suc k = omega (arith, there.0) in
        let next : valid_words k (at + 11 * suc j) b ≡ valid_words k ((at + 11 * past) % length b) b =
        ap (λ (x : ℕ). valid_words k (at + 11 * x) b) (sym one) ∙ sym (valid_words-mod k (at + 11 * past) b) in
        record {
          rest =
              h.rest ∙ ap (λ (x : ℕ). leb (longest (valid_words x at b)) limit) count
              ∙ ap (λ (s : List Bool). leb (longest s) limit)
              (valid_words-one j k at b ∙ ap₂ (λ (t : Bool) (l : List Bool). valid_words j at b ++ t ∷ l) there.1 next)
              ∙ within_cut limit (valid_words j at b) _ (omega (arith, there.0, length-valid_words j at b));
        }

    -- no more than the limit are left
    pub sought_done : starts ≤ i → true ≡ whole
    sought_done over =
        let few : starts + limit - i ≤ limit = omega arith in
        sym (h.rest ∙ le-leb _ limit
        (omega (arith, few, longest_most 0 (valid_words (starts + limit - i) at b), length-valid_words (starts + limit - i) at b)))
