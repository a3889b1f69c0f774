-- What encoding a block answers, row by row of its table (document 01, "When the bench says no"). Assumes nothing.
use mathlib.Core.Path.{◌≡◌, sym, ap, ◌∙◌}
use mathlib.Core.Bool.{true, false}
use mathlib.Core.List.{List}
use Prim.Native.Nat.{ℕ, ◌+◌, ◌*◌, ◌/◌, ◌%◌, ◌≤◌, ◌<◌}
use borrow.Author.Tests.{not-false, eqb-true, leb-true, le-leb, lt-leb, eq-eqb, ne_eqb}
use lib.Dec.{T}
use lib.ListN.{length}
use Rattle.bits.specs.Bits.{all_bits}
use Rattle.bits.specs.Search.{is_found, which_found, found, none}
use Rattle.bits.proofs.Tests.{is_true, holds}
use Rattle.formats.specs.declared.format.Format.{Format}
use Rattle.formats.specs.Numbers.{Numbers, numbers_of}
use Rattle.formats.proofs.Fits.{picks, blocks-apart}
use Rattle.refusals.specs.declared.Refusal.{Refusal}
use Rattle.refusals.specs.declared.Refusal.TheVariants.{Length, NotBit, OutputShort, NoPair}
use Rattle.refusals.specs.Refused.{refusal_number}
use Rattle.refusals.specs.Table.{Verdict, refused, accepted, verdict, answer_by, outcome_by, rises_above}
use Rattle.refusals.specs.Outcome.{outcome}
use Rattle.refusals.proofs.Table.{Decides, passed, failed, all_passed, NoRow, accepted_no_row, answer_by_lem}
use Rattle.refusals.proofs.Outputs.{for_output}
use Rattle.encoder.specs.Encoding.{format_of, first_pair, encode_table, written, encode_as, encode_of, encoded_with}
use Rattle.encoder.specs.Encodes.{CleanBlock, wrote_pair, found_none}
use Rattle.encoder.specs.Tested.{TestedFor}
use Rattle.encoder.proofs.Pairs.{pair_written}
use Rattle.std.specs.Prelude.{Result, Ok, Err}
use Rattle.encoder.specs.declared.Encoded.{Encoded}

-- ---- the tests before the search

-- what they tell of an output, by the case of their answer
pub told : (u out : List ℕ) (answer case : Result Format Refusal) → ((o : List ℕ) → length o ≡ length out → TestedFor u o answer) → answer ≡ case → TestedFor u out case
told u = for_output (TestedFor u)

-- ---- the rows

module _ (format : Format) (u out : List ℕ) where
  -- the format is that which the length picks
  decided : (v : Verdict Refusal) → format ≡ format_of u → Decides (encode_table format (length out) u) v
      → encode_of u out ≡ outcome_by Err out (written format u out (which_found (first_pair format u))) v
  unfolding encode_of encode_as
  decided v e d = rw (← e, d.verdict_is)

  -- the length is not the format's
  pub length_refused : format ≡ format_of u → (length u ≡ (numbers_of format).m → ⊥) → encode_of u out ≡ outcome (Err Length) out
  unfolding encode_table
  length_refused e h = decided (refused Length) e (failed (ne_eqb (length u) (numbers_of format).m h))

  module _ (size : length u ≡ (numbers_of format).m) where
    -- it is, so the length picks it
    picked : format ≡ format_of u
    picked = sym (picks (λ (F : Numbers). F.m) blocks-apart format (length u) size)

    -- a byte other than 0 or 1
    pub bits_refused : all_bits u ≡ false → encode_of u out ≡ outcome (Err NotBit) out
    unfolding encode_table
    bits_refused e = decided (refused NotBit) picked (passed (eq-eqb (length u) (numbers_of format).m size) (failed e))

    -- the output is too short
    pub room_refused : all_bits u ≡ true → length out < (numbers_of format).n → encode_of u out ≡ outcome (Err OutputShort) out
    unfolding encode_table
    room_refused e h =
        decided (refused OutputShort) picked
        (passed (eq-eqb (length u) (numbers_of format).m size) (passed e (failed (lt-leb (numbers_of format).n (length out) h))))

  module _ (clean : CleanBlock format u out) where
    -- no pair is proper
    pub none_refused : first_pair format u ≡ none → encode_of u out ≡ found_none out
    unfolding encode_table
    none_refused e =
        decided (refused NoPair) (picked clean.size)
        (passed (eq-eqb (length u) (numbers_of format).m clean.size)
        (passed (is_true (all_bits u) clean.bits)
        (passed (le-leb (numbers_of format).n (length out) clean.room) (failed (ap is_found e)))))

    -- the pair B, esb is the first
    pub pair_given : (B esb : ℕ) → esb < 1024 → first_pair format u ≡ found (1024 * B + esb) → encode_of u out ≡ wrote_pair format u out B esb
    unfolding encode_table
    pair_given B esb h e =
        decided accepted (picked clean.size)
        (passed (eq-eqb (length u) (numbers_of format).m clean.size)
        (passed (is_true (all_bits u) clean.bits)
        (passed (le-leb (numbers_of format).n (length out) clean.room) (passed (ap is_found e) all_passed))))
        ∙ rw e (pair_written B esb h format u out)

-- ---- the whole table

-- the numbers of the rows rise
pub rises : (format : Format) (room : ℕ) (u : List ℕ) → T (rises_above refusal_number 0 (encode_table format room u))
unfolding encode_table rises_above
rises format room u = tt

-- what no refusal applies to
pub accepted_clean : (format : Format) (u out : List ℕ) → verdict (encode_table format (length out) u) ≡ accepted → CleanBlock format u out
unfolding encode_table NoRow
accepted_clean format u out e =
    let no = accepted_no_row (encode_table format (length out) u) e in
    record {
      size = eqb-true (length u) (numbers_of format).m (not-false _ no.0);
      bits = holds (all_bits u) (not-false _ no.1.0);
      room = leb-true (numbers_of format).n (length out) (not-false _ no.1.1.0);
    }

-- outputs that have room for the telegram have one table
pub same-table : (format : Format) (u out out' : List ℕ) → (numbers_of format).n ≤ length out → (numbers_of format).n ≤ length out'
    → encode_table format (length out) u ≡ encode_table format (length out') u
unfolding encode_table
same-table format u out out' h h' = rw (le-leb (numbers_of format).n (length out) h, le-leb (numbers_of format).n (length out') h')

-- equal answers are of equal parts
pub same_encoded : (f : Format) (B esb tried : ℕ) (g : Format) (C e count : ℕ)
    → encoded_with f B esb tried ≡ encoded_with g C e count → (f ≡ g) × (B ≡ C) × (esb ≡ e) × (tried ≡ count)
same_encoded f B esb tried g C e count is = (
  ap (λ (x : Encoded). x.format) is,
  ap (λ (x : Encoded). x.pair.scrambling) is,
  ap (λ (x : Encoded). x.pair.shaping) is,
  ap (λ (x : Encoded). x.tried) is,
)

-- the answer where no refusal applies
abbrev pub first_answer : List ℕ → Result Encoded Refusal
first_answer u = let p = which_found (first_pair (format_of u) u) in (Ok (encoded_with (format_of u) (p / 1024) (p % 1024) (p + 1)))

module _ (u out : List ℕ) where
  -- the answer by the verdict
  pub answered_by : (encode_of u out).answer ≡ answer_by Err (first_answer u) (verdict (encode_table (format_of u) (length out) u))
  unfolding encode_of encode_as written
  answered_by =
      answer_by_lem Err out (written (format_of u) u out (which_found (first_pair (format_of u) u))) (verdict (encode_table (format_of u) (length out) u))

  -- a refusal keeps the output
  pub kept : (r : Refusal) → verdict (encode_table (format_of u) (length out) u) ≡ refused r → encode_of u out ≡ outcome (Err r) out
  unfolding encode_of encode_as
  kept r e = rw e
