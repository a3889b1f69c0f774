-- What the search answers, by the verdict of its table, and the search that writes by its own. Assumes nothing.
use Prim.Native.Nat.{ℕ, ◌≤◌}
use mathlib.Core.Path.{◌≡◌, refl, ap, ◌∙◌}
use mathlib.Core.Bool.{true}
use mathlib.Core.List.{List}
use borrow.Author.Tests.{le-leb}
use lib.Dec.{leb}
use lib.ListN.{length}
use Rattle.bits.specs.Bits.{all_bits}
use Rattle.bits.specs.Search.{First, found, none, is_found, which_found}
use Rattle.bits.proofs.Tests.{is_true}
use Rattle.formats.specs.Numbers.{long}
use Rattle.refusals.specs.declared.Refusal.{Refusal}
use Rattle.refusals.specs.declared.Refusal.TheVariants.{NoPlace}
use Rattle.refusals.specs.Table.{Verdict, refused, accepted, verdict, answer_by, outcome_by}
use Rattle.refusals.proofs.Table.{Decides, passed, failed, all_passed, answer_by_lem}
use Rattle.refusals.proofs.Outputs.{for_output}
use Rattle.captures.specs.Captures.{capture_limit, first_place, found_at, found_out, search_table, search_of, search_read_table, search_read_of}
use Rattle.captures.specs.Attempts.{out_found}
use Rattle.captures.specs.Tested.{CleanCapture, TestedFor}
use Rattle.std.specs.Prelude.{Result, Err}

-- what the tests before the search tell of an output, by the case of their answer
pub told : (s out : List ℕ) (answer case : Result (Unit {0}) Refusal) → ((o : List ℕ) → length o ≡ length out → TestedFor s o answer) → answer ≡ case → TestedFor s out case
told s = for_output (TestedFor s)

pub search_decided : (s : List ℕ) (v : Verdict Refusal) → Decides (search_table s) v
    → search_of s ≡ answer_by Err (found_at s (which_found (first_place s))) v
unfolding search_of
search_decided s v d = ap (answer_by Err (found_at s (which_found (first_place s)))) d.verdict_is

pub read_decided : (s out : List ℕ) (v : Verdict Refusal) → Decides (search_read_table (length out) s) v
    → search_read_of s out ≡ outcome_by Err out (found_out s (which_found (first_place s)) out) v
unfolding search_read_of
read_decided s out v d = ap (outcome_by Err out (found_out s (which_found (first_place s)) out)) d.verdict_is

-- past the tests of length, bytes and room, the first place decides
pub by_place : (s out : List ℕ) → CleanCapture s out → search_read_of s out ≡ out_found s out (first_place s)
unfolding search_read_table
by_place s out clean = go (first_place s) refl
  where
    within : leb (length s) capture_limit ≡ true
    within = le-leb (length s) capture_limit clean.within

    bits : all_bits s ≡ true
    bits = is_true (all_bits s) clean.bits

    room : leb long.m (length out) ≡ true
    room = le-leb long.m (length out) clean.room

    go : (f : First) → first_place s ≡ f → search_read_of s out ≡ out_found s out f
    go (found p) e =
        read_decided s out accepted (passed within (passed bits (passed room (passed (ap is_found e) all_passed))))
        ∙ ap (λ (x : First). found_out s (which_found x) out) e
    go none e = read_decided s out (refused NoPlace) (passed within (passed bits (passed room (failed (ap is_found e)))))

-- lent room, both have one verdict, so they answer alike
pub same_answer : (s out : List ℕ) → long.m ≤ length out → (search_read_of s out).answer ≡ search_of s
unfolding search_read_of search_of found_out search_read_table search_table verdict
same_answer s out room =
    answer_by_lem Err out (found_out s (which_found (first_place s)) out) (verdict (search_read_table (length out) s)) ∙ rw (le-leb long.m (length out) room)
