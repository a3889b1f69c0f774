-- A B that is dropped: where the word with the control bits is not in the table, or the shaped data has a run over a limit of condition 2, no esb
-- completes the shaped data (document 02, No. 7). Assumes nothing.
use mathlib.Core.Path.{◌≡◌, ap, ◌∙◌}
use mathlib.Core.Bool.{Bool, false, ◌&&◌}
use mathlib.Core.List.{List, ◌++◌}
use Prim.Native.Nat.{ℕ, ◌+◌, ◌-◌, ◌*◌, ◌/◌, ◌<◌}
use native.Mathlib.Omega.{arith}
use lib.ListN.{length, drop}
use Rattle.bits.specs.Groups.{over_groups}
use Rattle.bits.proofs.And.{and_left, and_right}
use Rattle.bits.proofs.Tests.{is_false, fails}
use Rattle.formats.specs.declared.format.Format.{Format}
use Rattle.formats.specs.Numbers.{numbers_of, blocks}
use Rattle.formats.proofs.Sizes.{sizes_of}
use Rattle.words.specs.Words.{in_table, is_word}
use Rattle.telegrams.specs.Fields.{all_words}
use Rattle.conditions.specs.Conditions.{off_step_within, not_repeating, thinned_within}
use Rattle.encoder.specs.Searched.{made_proper}
use Rattle.quick_encoder.specs.Tail.{tail_of}
use Rattle.quick_encoder.specs.ShapedData.{data_within}
use Rattle.quick_encoder.specs.PairFrom.{meets_conditions, completes}
use Rattle.quick_encoder.proofs.Completing.{words_decide}
use Rattle.quick_encoder.proofs.ShapedRuns.{data_within_lem}
use Rattle.quick_encoder.proofs.Tails.{first_word}

module _ (format : Format) (d : List ℕ) (B esb : ℕ) (size : length d ≡ 11 * blocks (numbers_of format)) where
  -- the first of the ten words decides
  pub first_word_drops : B < 4096 → in_table (256 + B / 16) ≡ false → completes format d B esb ≡ false
  unfolding completes over_groups is_word
  first_word_drops small absent =
      let tail = tail_of (numbers_of format) d B esb in
      words_decide format d tail (omega (arith, (sizes_of format).n_is)) false
      (ap (λ (t : Bool). t && all_words 9 (drop 11 tail)) (ap in_table (first_word (numbers_of format) d B esb small) ∙ absent))

  -- and so does a run in the shaped data
  pub run_drops : data_within format d ≡ false → completes format d B esb ≡ false
  unfolding completes made_proper
  run_drops over =
      let tail = tail_of (numbers_of format) d B esb in
      let t = d ++ tail in
      is_false (made_proper format t) λ h.
      fails (data_within format d) over
      (data_within_lem format d tail size
      (and_left (off_step_within format t) (not_repeating format t && thinned_within format t)
      (and_right (all_words 10 (drop ((numbers_of format).n - 110) t)) (meets_conditions format t) h)))
