-- The quick call and the plain one give the same answers, bytes and counts for every block and every output (document 02, No. 7), and so do the
-- two searches. The statements are about the contracts that the functions are proved to meet: `Post` of a function is its `ensures`, at the
-- arguments, the result and the parameters as it returns. Assumes nothing.
use mathlib.Core.Path.{◌≡◌, sym, ap, ◌∙◌}
use contract.Lifetimes.{Lfts}
use borrow.Fn.Kinds.{ended_of}
use borrow.Fn.World.{ArgsD, ResD}
use denote.Triple.Clauses.{AtExit}
use Rattle.refusals.specs.Outcome.{Outcome}
use Rattle.telegrams.specs.Telegram.{pair_with}
use Rattle.encoder.specs.Searched.{pair_of}
use Rattle.encoder.specs.contracts.encode as plain
use Rattle.encoder.proofs.encode.Kinds as plain-kinds
use Rattle.encoder.proofs.encode.Reads as plain-reads
use Rattle.encoder.specs.contracts.search.first_pair as first-pair
use Rattle.encoder.proofs.search.first_pair.Kinds as first-pair-kinds
use Rattle.encoder.proofs.search.first_pair.Reads as first-pair-reads
use Rattle.quick_encoder.proofs.encode.Reads as quick-reads
use Rattle.quick_encoder.proofs.search.pair_from.Reads as pair-from-reads
use Rattle.quick_encoder.proofs.OneScrambling.{from_the_first}
use Rattle.std.specs.Prelude.{Result}
use Rattle.encoder.specs.declared.Encoded.{Encoded}
use Rattle.refusals.specs.declared.Refusal.{Refusal}

-- called on one block and outputs that hold the same, `encoder::encode` answers r and `quick_encoder::encode` r', and the outputs are then s and s':
-- the answers are equal, with the pair and its count, and so are all bytes of the outputs
pub quick_is_plain : (κs : Lfts 2) (block-output : ArgsD plain.signature κs) (r r' : ResD plain.signature κs)
    (s s' : AtExit (ended_of 2 plain-kinds.ps plain-kinds.r) κs)
    → plain-reads.Post κs block-output r s → quick-reads.Post κs block-output r' s' → (r ≡ r') × (s.1.0.now ≡ s'.1.0.now)
quick_is_plain κs block-output r r' s s' plain quick =
    let both = sym plain ∙ quick in
    (ap (λ (y : Outcome (Result Encoded Refusal)). y.answer) both, ap (λ (y : Outcome (Result Encoded Refusal)). y.output) both)

-- and from the pair 0, 0 on `search::pair_from` finds what the plain `search::first_pair` finds
pub same_search : (κs : Lfts 1) (a : ArgsD first-pair.signature κs) (r r' : ResD first-pair.signature κs)
    (s : AtExit (ended_of 1 first-pair-kinds.ps first-pair-kinds.r) κs)
    → first-pair-reads.Post κs a r s → pair-from-reads.Post κs (a.0, (a.1.0, (pair_with 0 0, tt))) r' (s.0, (s.1.0, (pair_with 0 0, tt))) → r ≡ r'
same_search κs a r r' s plain quick = plain ∙ sym (quick ∙ ap pair_of (from_the_first a.0 a.1.0.now))
