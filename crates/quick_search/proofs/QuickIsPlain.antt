-- The quick calls and the plain ones give the same answers and bytes for every capture and every output. The
-- statements are about the contracts that the functions are proved to meet: `Post` of a function is its `ensures`, at the arguments, the result
-- and the parameters as it returns. Assumes nothing.
use mathlib.Core.Path.{◌≡◌, sym, ap, ◌∙◌}
use contract.Lifetimes.{Lfts}
use borrow.Fn.Kinds.{ended_of}
use borrow.Fn.World.{ArgsD, ResD}
use denote.Triple.Clauses.{AtExit}
use Rattle.refusals.specs.Outcome.{Outcome}
use Rattle.captures.specs.contracts.search as plain
use Rattle.captures.proofs.search.Kinds as plain-kinds
use Rattle.captures.proofs.search.Reads as plain-reads
use Rattle.captures.specs.contracts.search_read as plain-read
use Rattle.captures.proofs.search_read.Kinds as plain-read-kinds
use Rattle.captures.proofs.search_read.Reads as plain-read-reads
use Rattle.quick_search.proofs.search.Reads as quick-reads
use Rattle.quick_search.proofs.search_read.Reads as quick-read-reads
use Rattle.std.specs.Prelude.{Result}
use Rattle.captures.specs.declared.Found.{Found}
use Rattle.refusals.specs.declared.Refusal.{Refusal}

-- called on one capture, `captures::search` answers r and `quick_search::search` r': the answers are equal, with the place and the reading
pub quick_is_plain : (κs : Lfts 1) (capture : ArgsD plain.signature κs) (r r' : ResD plain.signature κs)
    (s s' : AtExit (ended_of 1 plain-kinds.ps plain-kinds.r) κs)
    → plain-reads.Post κs capture r s → quick-reads.Post κs capture r' s' → r ≡ r'
quick_is_plain κs capture r r' s s' plain quick = plain ∙ sym quick

-- called on one capture and outputs that hold the same, `captures::search_read` answers r and `quick_search::search_read` r', and the outputs are
-- then s and s': the answers are equal, and so are all bytes of the outputs
pub quick_read_is_plain : (κs : Lfts 2) (capture-output : ArgsD plain-read.signature κs) (r r' : ResD plain-read.signature κs)
    (s s' : AtExit (ended_of 2 plain-read-kinds.ps plain-read-kinds.r) κs)
    → plain-read-reads.Post κs capture-output r s → quick-read-reads.Post κs capture-output r' s' → (r ≡ r') × (s.1.0.now ≡ s'.1.0.now)
quick_read_is_plain κs capture-output r r' s s' plain quick =
    let both = sym plain ∙ quick in
    (ap (λ (y : Outcome (Result Found Refusal)). y.answer) both, ap (λ (y : Outcome (Result Found Refusal)). y.output) both)
