-- Demand 1 (the request: every call "answers by the numbered list in document 01. It tests its own input. A refused call changes no byte of
-- ours."), about the calls themselves, whatever bytes and numbers are handed over. Check and search write nothing.
-- Assumes nothing.
use Rattle.std.specs.Prelude.{ℕ, List, Err}
use Rattle.refusals.specs.Refused.{refusal_number}
use Rattle.refusals.specs.Table.{RefusesBy}
use Rattle.encoder.specs.Encodes.{EncodeAnswers}
use Rattle.checker.specs.Checking.{format_of, check_table, check_of}
use Rattle.maker.specs.Makes.{MakeAnswers}
use Rattle.lister.specs.Lists.{NextAnswers}
use Rattle.reader.specs.declared.Asked.TheVariants.{WellFormed, Proper}
use Rattle.reader.specs.ReadsExactly.{ReadAnswers}
use Rattle.captures.specs.Captures.{search_table, search_of}

pub record Demand1 : Type 0 where
  pub encode : (u out : List ℕ) → EncodeAnswers u out
  pub check : (b : List ℕ) → RefusesBy refusal_number Err (check_table (format_of b) b) (check_of b)
  pub make : (u : List ℕ) (B esb : ℕ) (out : List ℕ) → MakeAnswers u B esb out
  pub next : (u : List ℕ) (B esb : ℕ) (out : List ℕ) → NextAnswers u B esb out
  pub read : (w out : List ℕ) → ReadAnswers Proper w out
  pub read_well_formed : (w out : List ℕ) → ReadAnswers WellFormed w out
  pub search : (s : List ℕ) → RefusesBy refusal_number Err (search_table s) (search_of s)
