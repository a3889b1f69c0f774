-- A run of places whose windows' ends agree: of these only the first need be read (document 01, "Search, reading and place").
-- Assumes nothing.
use Rattle.std.specs.Prelude.{ℕ, ◌+◌, ◌≤◌, List, T, length}
use Rattle.formats.specs.declared.format.Format.{Format}
use Rattle.formats.specs.Numbers.{numbers_of, window_bits}
use Rattle.reader.specs.Reads.{ends_agree}
use Rattle.captures.specs.Captures.{window_at}

-- the format's windows at the places from p to q, q included, fit in the capture, and the ends of each agree
pub record Run (format : Format) (s : List ℕ) (p q : ℕ) : Type 0 where
  pub fits : q + window_bits (numbers_of format) ≤ length s
  pub agree : (j : ℕ) → p ≤ j → j ≤ q → T (ends_agree (numbers_of format) (window_at format s j))
