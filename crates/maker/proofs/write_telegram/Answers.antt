-- `maker::write_telegram` meets its contract, by those of `make`, `go_through` and `copy`. Assumes nothing.
use mathlib.Core.Path.{◌≡◌, sym, ap, ap₂, ◌∙◌}
use mathlib.Core.List.{List, ◌++◌}
use Prim.Native.Nat.{ℕ, ◌≤◌}
use native.Mathlib.Omega.{arith}
use lib.ListN.{length, take, drop}
use lib.Seq.{length-take-le}
use Rattle.std.proofs.lemmas.Result.{err_from_is_err_and}
use Rattle.bits.proofs.Parts.{front_is}
use Rattle.formats.specs.declared.format.Format.{Format}
use Rattle.formats.specs.Numbers.{numbers_of}
use Rattle.formats.proofs.Sizes.{sizes_of, words_fill, telegram_between}
use Rattle.words.specs.declared.BadWord.{BadWord}
use Rattle.refusals.specs.declared.Refusal.TheVariants.{NotWord}
use Rattle.refusals.specs.Outcome.{outcome}
use Rattle.cyclic.proofs.Formats.{facts_of}
use Rattle.telegrams.specs.declared.Pair.{Pair}
use Rattle.telegrams.specs.Telegram.{telegram_of}
use Rattle.telegrams.specs.Worded.{worded}
use Rattle.telegrams.proofs.FirstBad.{whole_all, not_word_some}
use Rattle.telegrams.proofs.Made.{length_made, bits_made}
use Rattle.maker.proofs.Steps.{word_refused, telegram_made}
use Rattle.maker.proofs.write_telegram.Goals as goal
use Rattle.std.specs.Prelude.{Ok, Err}

-- the array has room for its n bits
within : (format : Format) (n : ℕ) (array : List ℕ) → n ≡ (numbers_of format).n → length array ≡ 1023 → n ≤ length array
within format n array n_is size = omega (arith, telegram_between format)

module _ (format : Format) (u : List ℕ) (pair : Pair) where
  abbrev telegram : List ℕ
  telegram = telegram_of (numbers_of format) u pair.scrambling pair.shaping

  telegram_size : length telegram ≡ (numbers_of format).n
  telegram_size = length_made (numbers_of format) (facts_of format) (sizes_of format) u pair.scrambling pair.shaping

  -- it stands in front of the array that it is made in
  stands : (n : ℕ) (old array : List ℕ) → n ≡ (numbers_of format).n → array ≡ telegram ++ drop (numbers_of format).n old → take n array ≡ telegram
  stands n old array n_is e =
      ap (λ (k : ℕ). take k array) n_is ∙ front_is telegram (drop (numbers_of format).n old) array (numbers_of format).n telegram_size e

  -- and is copied over the front of the output
  copied : (front output written : List ℕ) → front ≡ telegram → written ≡ front ++ drop (length front) output
      → written ≡ telegram ++ drop (numbers_of format).n output
  copied front output written is e =
      e ∙ ap (λ (t : List ℕ). t ++ drop (length t) output) is ∙ ap (λ (i : ℕ). telegram ++ drop i output) telegram_size

pub make-requires : goal.make-requires
make-requires c = (telegram_between c.args.format).1

pub invariant_of-make : goal.invariant_of-make
invariant_of-make c = record { are_bits = c.requires.bits; size = c.requires.size }

pub slice_bounds-telegram-end : goal.slice_bounds-telegram-end
slice_bounds-telegram-end c = within c.args.format _ c.make.new.out c.telegram_bits-n.ensures c.make.auto.out

pub slice_bounds-go_through-end : goal.slice_bounds-go_through-end
slice_bounds-go_through-end c =
    sym (length-take-le _ c.make.new.out (within c.args.format _ c.make.new.out c.telegram_bits-n.ensures c.make.auto.out))

pub go_through-requires : goal.go_through-requires
go_through-requires c =
    let a = c.args in
    rw (stands a.format a.block.now a.pair _ _ c.make.new.out c.telegram_bits-n.ensures c.make.ensures) (record {
      are_bits = bits_made (numbers_of a.format) (facts_of a.format) (sizes_of a.format) a.block.now a.pair.scrambling a.pair.shaping;
      k_in_bounds = omega (arith, telegram_size a.format a.block.now a.pair, words_fill a.format, c.words-words.ensures);
    })

pub returns-in_err-go_through : goal.returns-in_err-go_through
returns-in_err-go_through c =
    let a = c.args in
    let front = stands a.format a.block.now a.pair _ _ c.make.new.out c.telegram_bits-n.ensures c.make.ensures in
    let told = c.go_through.ensures ∙ ap₂ worded c.words-words.ensures front in
    let p = err_from_is_err_and c.from_residual.result c.from_residual.ensures.1 in
    let (some, is) = not_word_some _ _ c.in_err-go_through.field-0.0 (sym told ∙ c.in_err-go_through.was) in
    rw (p.1, p.2)
    (word_refused a.format a.block.now a.pair.scrambling a.pair.shaping a.output.now c.requires some
    ∙ ap (λ (bad : BadWord). outcome (Err (NotWord bad)) a.output.now) is)

pub slice_bounds-telegram-end-2 : goal.slice_bounds-telegram-end-2
slice_bounds-telegram-end-2 c = within c.args.format _ c.make.new.out c.telegram_bits-n.ensures c.make.auto.out

pub slice_bounds-copy-end : goal.slice_bounds-copy-end
slice_bounds-copy-end c =
    sym (length-take-le _ c.make.new.out (within c.args.format _ c.make.new.out c.telegram_bits-n.ensures c.make.auto.out))

pub copy-requires : goal.copy-requires
copy-requires c =
    let a = c.args in
    rw (stands a.format a.block.now a.pair _ _ c.make.new.out c.telegram_bits-n.ensures c.make.ensures)
    (omega (arith, telegram_size a.format a.block.now a.pair, c.requires.room))

pub returns : goal.returns
returns c =
    let a = c.args in
    let front = stands a.format a.block.now a.pair _ _ c.make.new.out c.telegram_bits-n.ensures c.make.ensures in
    let told = c.go_through.ensures ∙ ap₂ worded c.words-words.ensures front in
    telegram_made a.format a.block.now a.pair.scrambling a.pair.shaping a.output.now c.requires
    (whole_all _ _ (sym told ∙ c.in_ok-go_through.was))
    ∙ ap (outcome (Ok a.format)) (sym (copied a.format a.block.now a.pair _ a.output.now c.copy.new.out front c.copy.ensures.copied))
