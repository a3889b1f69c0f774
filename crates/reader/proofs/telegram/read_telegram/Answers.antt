-- `reader::telegram::read_telegram` meets its contract: the answer at each test, and the user bits where all are passed. Assumes nothing.
use mathlib.Core.Path.{◌≡◌, sym, ap, ap₂, ◌∙◌}
use mathlib.Core.Bool.{true}
use mathlib.Core.List.{List, ◌++◌}
use Prim.Native.Nat.{ℕ, ◌*◌}
use native.Mathlib.Omega.{arith}
use lib.ListN.{drop, replicate}
use lib.Seq.{length-take-le}
use Rattle.bits.specs.Bits.{same}
use Rattle.bits.proofs.Tests.{holds}
use Rattle.formats.specs.Numbers.{numbers_of, blocks}
use Rattle.words.specs.declared.BadWord.{BadWord}
use Rattle.refusals.specs.declared.Refusal.TheVariants.{NotWord}
use Rattle.refusals.specs.Outcome.{outcome}
use Rattle.formats.proofs.Sizes.{sizes_of, block_between}
use Rattle.telegrams.specs.Telegram.{control}
use Rattle.telegrams.specs.Fields.{control_of, all_words, unshaped}
use Rattle.telegrams.specs.Worded.{worded}
use Rattle.telegrams.proofs.FirstBad.{whole_all, not_word_some}
use Rattle.telegrams.proofs.Shaping.{length-unshaped, bits_unshaped}
use Rattle.telegrams.proofs.Buffers.UserBits.{data_blocks, user_bits_lem}
use Rattle.reader.specs.declared.Reading.{Reading}
use Rattle.reader.specs.Reads.{reading_of}
use Rattle.reader.proofs.Steps.{control_refused, word_refused, condition_refused, telegram_read}
use Rattle.reader.proofs.telegram.read_telegram.Goals as goal
use Rattle.std.specs.Prelude.{Ok, Err}
use Rattle.std.proofs.lemmas.Result.{err_from_is_err_and}

-- the array that the blocks go into
abbrev zeros : List ℕ
zeros = replicate 930 0

pub returns-then-not-has_control : goal.returns-then-not-has_control
returns-then-not-has_control c =
    let a = c.args in
    control_refused a.asked a.telegram.format a.t a.flipped a.telegram.bits.now a.output.now
    (sym c.has_control.ensures ∙ c.if-not-has_control.true)

pub unshape-requires : goal.unshape-requires
unshape-requires c =
    let S = sizes_of c.args.telegram.format in record {
      are_bits = c.args.telegram.are_bits;
      k_in_bounds = omega (arith, S);
      room = omega (arith, S, block_between c.args.telegram.format);
    }

pub returns-in_err-unshape : goal.returns-in_err-unshape
returns-in_err-unshape c =
    let controlled : let a = c.args in same (control_of (numbers_of a.telegram.format) a.telegram.bits.now) control ≡ true = sym c.has_control.ensures ∙ c.if-not-has_control.false in
    let a = c.args in
    let (some, is) =
    not_word_some _ _ c.in_err-unshape.field-0.0 (ap (λ (k : ℕ). worded k a.telegram.bits.now) (sym c.words-words.ensures) ∙ sym c.unshape.ensures.value ∙ c.in_err-unshape.was) in
    let given = err_from_is_err_and c.from_residual.result c.from_residual.ensures.1 in
    rw (given.1, given.2)
    (word_refused a.asked a.telegram.format a.t a.flipped a.telegram.bits.now a.output.now controlled some
    ∙ ap (λ (bad : BadWord). outcome (Err (NotWord bad)) a.output.now) is)

pub returns-in_err-first_failing : goal.returns-in_err-first_failing
returns-in_err-first_failing c =
    let controlled : let a = c.args in same (control_of (numbers_of a.telegram.format) a.telegram.bits.now) control ≡ true = sym c.has_control.ensures ∙ c.if-not-has_control.false in
    let words_in_table : all_words c.words-words.result c.args.telegram.bits.now ≡ true =
    let b = c.args.telegram.bits.now in
    whole_all b c.words-words.result (sym c.unshape.ensures.value ∙ c.in_ok-unshape.was) in
    let all_worded : let a = c.args in all_words (numbers_of a.telegram.format).words a.telegram.bits.now ≡ true =
    let b = c.args.telegram.bits.now in
    ap (λ (k : ℕ). all_words k b) (sym c.words-words.ensures) ∙ words_in_table in
    let a = c.args in
    let given = err_from_is_err_and c.from_residual-in_err-first_failing.result c.from_residual-in_err-first_failing.ensures.1 in
    rw (given.1, given.2)
    (condition_refused a.asked a.telegram.format a.t a.flipped a.telegram.bits.now a.output.now controlled all_worded
    c.in_err-first_failing.field-0.0 (sym c.first_failing.ensures ∙ c.in_err-first_failing.was))

pub slice_bounds-unshaped-end : goal.slice_bounds-unshaped-end
slice_bounds-unshaped-end c =
    omega (arith, block_between c.args.telegram.format, c.unshape.auto)

pub slice_bounds-write_user_bits-end : goal.slice_bounds-write_user_bits-end
slice_bounds-write_user_bits-end c =
    let u = c.unshape.new.out in
    sym (length-take-le c.user_bits-m.result u (omega (arith, block_between c.args.telegram.format, c.unshape.auto)))

pub write_user_bits-requires : goal.write_user_bits-requires
write_user_bits-requires c =
    let words_in_table : all_words c.words-words.result c.args.telegram.bits.now ≡ true =
    let b = c.args.telegram.bits.now in
    whole_all b c.words-words.result (sym c.unshape.ensures.value ∙ c.in_ok-unshape.was) in
    let filled : let b = c.args.telegram.bits.now in c.unshape.new.out ≡ unshaped c.words-words.result b ++ drop (10 * c.words-words.result) zeros = c.unshape.ensures.out_after (holds _ (words_in_table)) in
    let a = c.args in
    let F = numbers_of a.telegram.format in
    let S = sizes_of a.telegram.format in
    let b = a.telegram.bits.now in
    let u = c.unshape.new.out in
    let size = length-unshaped (blocks F) b in
    rw (data_blocks F S b u (drop (10 * c.words-words.result) zeros) c.words-words.result c.user_bits-m.result
    c.words-words.ensures c.user_bits-m.ensures (filled)) (record {
      are_bits = bits_unshaped (blocks F) b;
      in_bounds = (omega (arith, size, S), omega (arith, size, S, block_between a.telegram.format));
      scrambled_in_bounds = omega (arith, size, S, c.requires);
    })

pub returns : goal.returns
unfolding reading_of
returns c =
    let words_in_table : all_words c.words-words.result c.args.telegram.bits.now ≡ true =
    let b = c.args.telegram.bits.now in
    whole_all b c.words-words.result (sym c.unshape.ensures.value ∙ c.in_ok-unshape.was) in
    let filled : let b = c.args.telegram.bits.now in c.unshape.new.out ≡ unshaped c.words-words.result b ++ drop (10 * c.words-words.result) zeros = c.unshape.ensures.out_after (holds _ (words_in_table)) in
    let controlled : let a = c.args in same (control_of (numbers_of a.telegram.format) a.telegram.bits.now) control ≡ true = sym c.has_control.ensures ∙ c.if-not-has_control.false in
    let all_worded : let a = c.args in all_words (numbers_of a.telegram.format).words a.telegram.bits.now ≡ true =
    let b = c.args.telegram.bits.now in
    ap (λ (k : ℕ). all_words k b) (sym c.words-words.ensures) ∙ words_in_table in
    let a = c.args in
    let F = numbers_of a.telegram.format in
    let b = a.telegram.bits.now in
    let u = c.unshape.new.out in
    let B = c.scrambling_bits-b.result in
    let B-is = c.scrambling_bits-b.ensures in
    let esb-is = c.shaping_bits-esb.ensures in
    let reading : ℕ → ℕ → Reading = λ x y. record { format = a.telegram.format; scrambling = x; shaping = y; turn = a.t; flipped = a.flipped } in
    let written =
    user_bits_lem F (sizes_of a.telegram.format) b u (drop (10 * c.words-words.result) zeros) c.words-words.result c.user_bits-m.result
    c.words-words.ensures c.user_bits-m.ensures (filled)
    B B-is a.output.now c.write_user_bits.new.output c.write_user_bits.ensures in
    telegram_read a.asked a.telegram.format a.t a.flipped b a.output.now (controlled) (all_worded)
    (sym c.first_failing.ensures ∙ c.in_ok-first_failing.was)
    ∙ ap₂ (λ (r : Reading) (o : List ℕ). outcome (Ok r) o) (ap₂ reading (sym B-is) (sym esb-is)) (sym written)
