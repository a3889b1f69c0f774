-- What encoding a block means. Assumes nothing.
use Prim.Native.Nat.{ℕ}
use mathlib.Core.Path.{◌≡◌, refl, sym, ap, ◌∙◌}
use mathlib.Core.List.{List}
use lib.ListN.{length}
use Rattle.bits.proofs.Tests.{clash}
use Rattle.formats.specs.declared.format.Format.{Format}
use Rattle.formats.specs.Numbers.{numbers_of}
use Rattle.formats.proofs.Sizes.{sizes_of}
use Rattle.refusals.specs.declared.Refusal.{Refusal}
use Rattle.refusals.specs.Refused.{refusal_number}
use Rattle.refusals.specs.Table.{refused}
use Rattle.refusals.specs.Outcome.{Outcome, FrontWritten}
use Rattle.refusals.proofs.Table.{refuses_by}
use Rattle.refusals.proofs.Fronts.{front-written}
use Rattle.cyclic.proofs.Formats.{facts_of}
use Rattle.telegrams.specs.Telegram.{telegram_of}
use Rattle.telegrams.proofs.Made.{length_made}
use Rattle.encoder.specs.Encoding.{format_of, encode_table, encode_of, encoded_with}
use Rattle.encoder.specs.Encodes.{CleanBlock, EncodeAnswers, EncodesFirst}
use Rattle.encoder.proofs.Steps.{rises, kept}
use Rattle.encoder.proofs.FirstOrNone.{first_or_none_lem, gives_first_lem, says_none_lem}
use Rattle.encoder.proofs.Accepted.{said, tells, encode_accepted}
use Rattle.std.specs.Prelude.{Result, Ok, Err}
use Rattle.encoder.specs.declared.Encoded.{Encoded}

-- only a refusal tells that it is one
only : (a : Result Encoded Refusal) (r : Refusal) → said a ≡ refused r → a ≡ Err r
only (Err q) r e = cc
only (Ok first) r e = clash cc

-- a pair's telegram stands over the front of the output
written-front : (u out : List ℕ) (format : Format) (B esb tried : ℕ) → (encode_of u out).answer ≡ Ok (encoded_with format B esb tried)
    → FrontWritten (numbers_of format).n out (encode_of u out).output
written-front u out format B esb tried e =
    let F = numbers_of format in
    let a = encode_accepted u out format B esb tried e in
    rw a.output (front-written F.n (telegram_of F u B esb) out (length_made F (facts_of format) (sizes_of format) u B esb) a.clean.room)

pub encode_answers : (u out : List ℕ) → EncodeAnswers u out
encode_answers u out =
    record {
      refuses =
          refuses_by Err said (λ r. refl) only refusal_number (encode_table (format_of u) (length out) u) (rises (format_of u) (length out) u)
          (encode_of u out).answer (tells u out);
      keeps = λ r e. ap (λ (y : Outcome (Result Encoded Refusal)). y.output) (kept u out r (sym (tells u out) ∙ ap said e));
      writes = written-front u out;
    }

pub encodes_first : (format : Format) (u out : List ℕ) → CleanBlock format u out → EncodesFirst format u out
encodes_first format u out clean =
    record {
      gives_first = gives_first_lem format u out clean;
      says_none = says_none_lem format u out clean;
      first_or_none = first_or_none_lem format u out clean;
    }
