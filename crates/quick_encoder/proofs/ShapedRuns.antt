-- The words off step that lie in the shaped data are the first of the telegram's, so that a telegram that meets condition 2 has no run over a
-- limit in its shaped data. Assumes nothing.
use mathlib.Core.Path.{◌≡◌}
use mathlib.Core.List.{List, ◌++◌, append_assoc}
use Prim.Native.Nat.{ℕ, ◌+◌, ◌-◌, ◌*◌, ◌≤◌}
use native.Mathlib.Omega.{arith}
use lib.Dec.{T, leb→le, le→leb}
use lib.ListN.{length}
use Rattle.formats.specs.declared.format.Format.{Format}
use Rattle.formats.specs.Numbers.{numbers_of, blocks}
use Rattle.formats.proofs.Sizes.{sizes_of}
use Rattle.conditions.specs.Runs.{valid_words, longest, longest_round}
use Rattle.conditions.specs.Conditions.{limit_at, off_step_at, off_step_within}
use Rattle.conditions.proofs.Each.{each_follows}
use Rattle.conditions.proofs.Longest.{longest-front}
use Rattle.conditions.proofs.Round.{valid_words-append, valid_words-front}
use Rattle.quick_encoder.specs.ShapedData.{data_within_at, data_within}

-- how many words off step lie in the shaped data
abbrev in_data : Format → ℕ
in_data format = blocks (numbers_of format) - 1

module _ (format : Format) (d rest : List ℕ) (size : length d ≡ 11 * blocks (numbers_of format)) where
  -- of the telegram's words off step by p those in the data are the first, and eleven more follow
  data_words_first : (p : ℕ) → p ≤ 11
      → valid_words (numbers_of format).words p (d ++ rest)
      ≡ valid_words (in_data format) p d ++ valid_words 11 (p + 11 * in_data format) (d ++ rest)
  data_words_first p off =
      let S = sizes_of format in
      let count : (numbers_of format).words ≡ in_data format + 11 = omega (arith, S.words_are, S.some) in
      let inside : p + 11 * in_data format ≤ length d = omega (arith, S.some) in
      rw (count, valid_words-append (in_data format) 11 p (d ++ rest), valid_words-front (in_data format) p d rest inside)

  data_run_no_longer : (p : ℕ) → p ≤ 11
      → longest (valid_words (in_data format) p d) ≤ longest_round (valid_words (numbers_of format).words p (d ++ rest))
  data_run_no_longer p off = rw (data_words_first p off, append_assoc) (longest-front 0 (valid_words (in_data format) p d) _)

  data_within_at_lem : (p : ℕ) → p ≤ 11 → T (off_step_at format (d ++ rest) p) → T (data_within_at format d p)
  unfolding off_step_at data_within_at
  data_within_at_lem p off t =
      le→leb _ (limit_at format p) (omega (arith, leb→le _ (limit_at format p) t, data_run_no_longer p off))

  -- a telegram that meets condition 2 has no run over a limit in its shaped data
  pub data_within_lem : T (off_step_within format (d ++ rest)) → T (data_within format d)
  unfolding off_step_within data_within
  data_within_lem = each_follows (off_step_at format (d ++ rest)) (data_within_at format d) 1 10 (λ p below. data_within_at_lem p (omega arith))
