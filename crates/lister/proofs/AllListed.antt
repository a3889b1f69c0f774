-- A listing from 0, 0 on has every proper pair once, in order, and no other (document 02, No. 9). Assumes nothing.
use mathlib.Core.Path.{◌≡◌, refl, sym, ap, subst, ◌∙◌}
use mathlib.Core.Bool.{Bool, true, false, cond}
use mathlib.Core.List.{List, [], ◌∷◌, ◌++◌}
use Prim.Native.Nat.{ℕ, zero, suc, ◌+◌, ◌-◌, ◌*◌, ◌/◌, ◌%◌, ◌≤◌, ◌<◌}
use native.Mathlib.Omega.{arith}
use borrow.Author.Tests.{ltb-true, ltb-false}
use lib.Dec.{T, ltb}
use lib.ListN.{length, drop, length-append}
use Rattle.bits.specs.Bits.{all_bits}
use Rattle.bits.specs.Search.{First, found, none, first_of}
use Rattle.bits.proofs.Tests.{clash}
use Rattle.formats.specs.declared.format.Format.{Format}
use Rattle.formats.specs.Numbers.{numbers_of}
use Rattle.formats.proofs.Sizes.{sizes_of}
use Rattle.refusals.specs.Refused.{pair_count}
use Rattle.refusals.specs.Outcome.{Outcome}
use Rattle.cyclic.proofs.Formats.{facts_of}
use Rattle.telegrams.proofs.Made.{length_made}
use Rattle.encoder.specs.Encodes.{CleanBlock}
use Rattle.encoder.specs.Encoding.{telegram_at, passes}
use Rattle.encoder.proofs.Pairs.{pair_searched}
use Rattle.quick_encoder.specs.PairFrom.{pair_from}
use Rattle.maker.specs.Makes.{InOrder}
use Rattle.lister.specs.Listing.{next_of, listed}
use Rattle.lister.specs.Listings.{BAndEsb, then_on, listing, pairs_from, proper_of, proper_pairs, ListsAll}
use Rattle.lister.proofs.Steps.{next_is}
use Rattle.lister.proofs.JustAfter.{onward_at, onward_from, onward_ended, after_place}
use Rattle.std.specs.Prelude.{Option, Result, Some, None}
use Rattle.telegrams.specs.Telegram.{pair_with}
use Rattle.telegrams.specs.declared.Pair.{Pair}
use Rattle.lister.specs.declared.Listed.{Listed}
use Rattle.refusals.specs.declared.Refusal.{Refusal}

-- ---- the proper ones of k pairs from p on, by the search for the first of them

module _ (format : Format) (u : List ℕ) where
  abbrev proper_from : ℕ → ℕ → List BAndEsb
  proper_from p k = proper_of format u (pairs_from p k)

  proper-zero : (p : ℕ) → proper_from p 0 ≡ []
  unfolding pairs_from proper_of
  proper-zero p = refl

  -- the next is proper, or not
  proper-next : (p k : ℕ) (passed : Bool) → passes format u p ≡ passed
      → proper_from p (suc k) ≡ cond passed ((p / 1024, p % 1024) ∷ proper_from (suc p) k) (proper_from (suc p) k)
  unfolding pairs_from proper_of passes telegram_at
  proper-next p k passed e = ap (λ (b : Bool). cond b ((p / 1024, p % 1024) ∷ proper_from (suc p) k) (proper_from (suc p) k)) e

  -- q is the first of them that is proper
  record Splits (p k q : ℕ) : Type 0 where
    pub from : p ≤ q
    pub below : q < p + k
    pub rest : proper_from p k ≡ (q / 1024, q % 1024) ∷ proper_from (suc q) (p + k - suc q)

  proper-found : (k p q : ℕ) → first_of (passes format u) p k ≡ found q → Splits p k q
  unfolding first_of
  proper-found zero p q e = clash cc
  proper-found (suc k) p q e = go (passes format u p) refl e (proper-found k (suc p) q)
    where
      go : (passed : Bool) → passes format u p ≡ passed → cond passed (found p) (first_of (passes format u) (suc p) k) ≡ found q
          → (first_of (passes format u) (suc p) k ≡ found q → Splits (suc p) k q) → Splits p (suc k) q
      go true is e later =
          let here : p ≡ q = cc in
          let left : k ≡ p + suc k - suc p = omega arith in
          subst (Splits p (suc k)) here
          record {
            from = omega arith;
            below = omega arith;
            rest = proper-next p k true is ∙ ap (λ (j : ℕ). (p / 1024, p % 1024) ∷ proper_from (suc p) j) left;
          }
      go false is e later =
          let s = later e in
          let left : suc p + k - suc q ≡ p + suc k - suc q = omega arith in
          record {
            from = omega (arith, s.from);
            below = omega (arith, s.below);
            rest = proper-next p k false is ∙ s.rest ∙ ap (λ (j : ℕ). (q / 1024, q % 1024) ∷ proper_from (suc q) j) left;
          }

  proper-none : (k p : ℕ) → first_of (passes format u) p k ≡ none → proper_from p k ≡ []
  unfolding first_of
  proper-none zero p e = proper-zero p
  proper-none (suc k) p e = go (passes format u p) refl e (proper-none k (suc p))
    where
      go : (passed : Bool) → passes format u p ≡ passed → cond passed (found p) (first_of (passes format u) (suc p) k) ≡ none
          → (first_of (passes format u) (suc p) k ≡ none → proper_from (suc p) k ≡ []) → proper_from p (suc k) ≡ []
      go true is e later = clash cc
      go false is e later = proper-next p k false is ∙ later e

-- ---- the calls

listing_ended : (calls : ℕ) (u out : List ℕ) → listing calls u out None ≡ []
unfolding listing
listing_ended zero u out = refl
listing_ended (suc calls) u out = refl

module _ (format : Format) (u : List ℕ) (bits : T (all_bits u)) (size : length u ≡ (numbers_of format).m) where
  -- so many calls from place p on give the proper pairs from there on
  abbrev Lists : ℕ → ℕ → List ℕ → Type 0
  Lists calls p out =
      (numbers_of format).n ≤ length out → p ≤ pair_count → pair_count - p ≤ calls → listing calls u out (onward_at p) ≡ proper_from format u p (pair_count - p)

  -- the output that a call leaves has room for the next telegram
  left_room : (q : ℕ) (out : List ℕ) → (numbers_of format).n ≤ length (telegram_at format u q ++ drop (numbers_of format).n out)
  unfolding telegram_at
  left_room q out =
      let F = numbers_of format in
      omega (arith, length-append (telegram_at format u q) (drop F.n out), length_made F (facts_of format) (sizes_of format) u (q / 1024) (q % 1024))

  -- what a call gives, and those after it
  abbrev answers : ℕ → Outcome (Result (Option Listed) Refusal) → List BAndEsb
  answers calls o = then_on (listing calls u o.output) o.answer

  one-call : (calls p : ℕ) (out : List ℕ) → ((q : ℕ) (left : List ℕ) → Lists calls q left) → (numbers_of format).n ≤ length out → p < pair_count
      → pair_count - p ≤ suc calls → listing (suc calls) u out (Some (pair_with (p / 1024) (p % 1024))) ≡ proper_from format u p (pair_count - p)
  unfolding listing pair_from
  one-call calls p out after room below enough = go (first_of (passes format u) p (pair_count - p)) refl
    where
      next : (first : First) → first_of (passes format u) p (pair_count - p) ≡ first → answers calls (next_of u (p / 1024) (p % 1024) out) ≡ answers calls (listed format u out first)
      next first e =
          let place : 1024 * (p / 1024) + p % 1024 ≡ p = omega arith in
          let in_order : InOrder format u (p / 1024) (p % 1024) out = record { size = size; bits = bits; scrambling = omega arith; shaping = omega arith; room = room } in
          ap (answers calls) (next_is format u (p / 1024) (p % 1024) out in_order first (ap (pair_from format u) place ∙ e))

      go : (first : First) → first_of (passes format u) p (pair_count - p) ≡ first → answers calls (next_of u (p / 1024) (p % 1024) out) ≡ proper_from format u p (pair_count - p)
      go none e = next none e ∙ sym (proper-none format u (pair_count - p) p e)
      go (found q) e =
          let s = proper-found format u (pair_count - p) p q e in
          let left = telegram_at format u q ++ drop (numbers_of format).n out in
          let within : q < pair_count = omega (arith, s.from, s.below) in
          let count : pair_count - suc q ≡ p + (pair_count - p) - suc q = omega arith in
          next (found q) e
          ∙ ap (λ (o : Option Pair). (q / 1024, q % 1024) ∷ listing calls u left o) (after_place q within)
          ∙ ap (λ (l : List BAndEsb). (q / 1024, q % 1024) ∷ l) (after (suc q) left (left_room q out) (omega arith) (omega (arith, s.from)))
          ∙ ap (λ (k : ℕ). (q / 1024, q % 1024) ∷ proper_from format u (suc q) k) count
          ∙ sym s.rest

  -- all places are behind
  none_left : (calls p : ℕ) (out : List ℕ) → pair_count ≤ p → listing calls u out (onward_at p) ≡ proper_from format u p (pair_count - p)
  none_left calls p out all =
      let none : 0 ≡ pair_count - p = omega arith in
      ap (listing calls u out) (onward_ended p all) ∙ listing_ended calls u out ∙ sym (proper-zero format u p) ∙ ap (proper_from format u p) none

  lists_from : (calls p : ℕ) (out : List ℕ) → Lists calls p out
  lists_from zero p out room within enough = none_left zero p out (omega arith)
  lists_from (suc calls) p out room within enough = go (ltb p pair_count) refl (lists_from calls)
    where
      go : (more : Bool) → ltb p pair_count ≡ more → ((q : ℕ) (left : List ℕ) → Lists calls q left)
          → listing (suc calls) u out (onward_at p) ≡ proper_from format u p (pair_count - p)
      go false e after = none_left (suc calls) p out (ltb-false p pair_count e)
      go true e after =
          let below = ltb-true p pair_count e in
          ap (listing (suc calls) u out) (onward_from p below) ∙ one-call calls p out after room below enough

pub lists_all : (format : Format) (u out : List ℕ) → CleanBlock format u out → ListsAll format u out
unfolding proper_pairs onward_at
lists_all format u out clean =
    record {
      all = λ calls enough. from calls 0 (omega arith) (omega arith);
      onward = λ B esb small below calls enough.
          let p : ℕ = 1024 * B + esb in
          ap (listing calls u out) (sym (pair_searched B esb below) ∙ sym (onward_from p (omega arith))) ∙ from calls p (omega arith) (omega arith);
    }
  where
    from : (calls p : ℕ) → p ≤ pair_count → pair_count - p ≤ calls → listing calls u out (onward_at p) ≡ proper_from format u p (pair_count - p)
    from calls p = lists_from format u clean.bits clean.size calls p out clean.room
