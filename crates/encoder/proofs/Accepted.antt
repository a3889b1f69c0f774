-- What encoding accepts, and what it then answers and writes (document 01, "Search, reading and place"). Assumes nothing.
use Prim.Native.Nat.{ℕ, ◌+◌, ◌*◌, ◌/◌, ◌%◌, ◌≤◌}
use mathlib.Core.Path.{◌≡◌, refl, sym, ap, subst, ◌∙◌}
use mathlib.Core.List.{List, ◌++◌}
use native.Mathlib.Omega.{arith}
use lib.ListN.{length, take, drop}
use lib.Seq.{take_at}
use Rattle.bits.specs.Search.{which_found}
use Rattle.formats.specs.declared.format.Format.{Format}
use Rattle.formats.specs.Numbers.{numbers_of}
use Rattle.formats.proofs.Sizes.{sizes_of}
use Rattle.refusals.specs.declared.Refusal.{Refusal}
use Rattle.refusals.specs.Refused.{pair_count}
use Rattle.refusals.specs.Table.{Verdict, refused, accepted, verdict, answer_by}
use Rattle.refusals.specs.Outcome.{Outcome}
use Rattle.cyclic.proofs.Formats.{facts_of}
use Rattle.refusals.proofs.Table.{answer_said}
use Rattle.telegrams.specs.Telegram.{telegram_of}
use Rattle.telegrams.proofs.Made.{length_made}
use Rattle.encoder.specs.Encoding.{format_of, first_pair, encode_table, encode_of, encoded_with}
use Rattle.encoder.specs.FirstPair.{FirstProper}
use Rattle.encoder.specs.Encodes.{CleanBlock}
use Rattle.encoder.proofs.Steps.{accepted_clean, same-table, first_answer, answered_by, same_encoded}
use Rattle.encoder.proofs.FirstOrNone.{answered_first}
use Rattle.std.specs.Prelude.{Result, Ok, Err}
use Rattle.encoder.specs.declared.Encoded.{Encoded}

-- the verdict that an answer tells
abbrev pub said : Result Encoded Refusal → Verdict Refusal
said (Err r) = refused r
said (Ok first) = accepted

pub tells : (u out : List ℕ) → said (encode_of u out).answer ≡ verdict (encode_table (format_of u) (length out) u)
tells u out =
    ap said (answered_by u out)
    ∙ answer_said Err said (λ r. refl) (first_answer u) refl (verdict (encode_table (format_of u) (length out) u))

-- ---- an answer that is a pair

-- the block is clean, the pair is the first that is proper, and its telegram is written over the front of the output
pub record Accepted (u out : List ℕ) (format : Format) (B esb tried : ℕ) : Type 0 where
  pub clean : CleanBlock format u out
  pub first : FirstProper format u B esb
  pub count : tried ≡ 1024 * B + esb + 1
  pub most : tried ≤ pair_count
  pub output : (encode_of u out).output ≡ telegram_of (numbers_of format) u B esb ++ drop (numbers_of format).n out

module _ (u out : List ℕ) (format : Format) (B esb tried : ℕ) (e : (encode_of u out).answer ≡ Ok (encoded_with format B esb tried)) where
  pub encode_accepted : Accepted u out format B esb tried
  encode_accepted =
      let v = sym (tells u out) ∙ ap said e in
      let answered = answered_by u out ∙ ap (answer_by Err (first_answer u)) v in
      let p = which_found (first_pair (format_of u) u) in
      let picked = (same_encoded (format_of u) (p / 1024) (p % 1024) (p + 1) format B esb tried cc).0 in
      let clean = subst (λ (f : Format). CleanBlock f u out) picked (accepted_clean (format_of u) u out v) in
      let a = answered_first format u out clean B esb tried e in
      record {
        clean = clean;
        first = a.0;
        count = a.1;
        most = omega (arith, a.0.scrambling, a.0.shaping, a.1);
        output = ap (λ (y : Outcome (Result Encoded Refusal)). y.output) a.2;
      }

  -- the front of the output is the telegram
  pub accepted_front : take (numbers_of format).n (encode_of u out).output ≡ telegram_of (numbers_of format) u B esb
  accepted_front =
      let F = numbers_of format in
      ap (take F.n) encode_accepted.output
      ∙ take_at (telegram_of F u B esb) (drop F.n out) F.n (length_made F (facts_of format) (sizes_of format) u B esb)

-- ---- what two outputs that have room for the telegram held plays no part

module _ (u out out' : List ℕ) (room : (numbers_of (format_of u)).n ≤ length out) (room' : (numbers_of (format_of u)).n ≤ length out') where
  pub same_answer : (encode_of u out).answer ≡ (encode_of u out').answer
  same_answer =
      answered_by u out
      ∙ ap (λ (v : Verdict Refusal). answer_by Err (first_answer u) v) (ap verdict (same-table (format_of u) u out out' room room'))
      ∙ sym (answered_by u out')

  pub same-front : (format : Format) (B esb tried : ℕ) → (encode_of u out).answer ≡ Ok (encoded_with format B esb tried)
      → take (numbers_of format).n (encode_of u out).output ≡ take (numbers_of format).n (encode_of u out').output
  same-front format B esb tried e =
      accepted_front u out format B esb tried e ∙ sym (accepted_front u out' format B esb tried (sym same_answer ∙ e))
