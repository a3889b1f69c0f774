-- `balise::as_number::refusal_fields` meets its contract. Assumes nothing.
use mathlib.Core.Path.{◌≡◌, ap, ◌∙◌}
use Prim.Native.Nat.{◌<◌}
use native.Mathlib.Omega.{arith}
use Rattle.words.specs.declared.BadWord.{BadWord}
use Rattle.words.specs.Words.{kind_number}
use Rattle.refusals.specs.Refused.{bad_word_in}
use Rattle.balise.proofs.as_number.refusal_fields.Goals as goal

pub overflow_mul-result : goal.overflow_mul-result
overflow_mul-result c =
    let kind_is : c.number.result ≡ kind_number (bad_word_in c.args.refusal).kind = c.number.ensures ∙ ap (λ (bad : BadWord). kind_number bad.kind) c.bad_word-bad.ensures in
    let index_is : c.bad_word-bad.result.index ≡ (bad_word_in c.args.refusal).index = ap (λ (bad : BadWord). bad.index) c.bad_word-bad.ensures in
    let small : (c.number.result < 4096) × (c.bad_word-bad.result.index < 1024) =
    let fits = c.requires.1.1.1 in
    (omega (arith, fits.0, kind_is), omega (arith, fits.1.0, index_is)) in
    record { fits = omega (arith, small) }

pub overflow_add-result : goal.overflow_add-result
overflow_add-result c =
    let kind_is : c.number.result ≡ kind_number (bad_word_in c.args.refusal).kind = c.number.ensures ∙ ap (λ (bad : BadWord). kind_number bad.kind) c.bad_word-bad.ensures in
    let index_is : c.bad_word-bad.result.index ≡ (bad_word_in c.args.refusal).index = ap (λ (bad : BadWord). bad.index) c.bad_word-bad.ensures in
    let small : (c.number.result < 4096) × (c.bad_word-bad.result.index < 1024) =
    let fits = c.requires.1.1.1 in
    (omega (arith, fits.0, kind_is), omega (arith, fits.1.0, index_is)) in
    record { fits = omega (arith, small) }

pub overflow_mul-result-2 : goal.overflow_mul-result-2
overflow_mul-result-2 c =
    let kind_is : c.number.result ≡ kind_number (bad_word_in c.args.refusal).kind = c.number.ensures ∙ ap (λ (bad : BadWord). kind_number bad.kind) c.bad_word-bad.ensures in
    let index_is : c.bad_word-bad.result.index ≡ (bad_word_in c.args.refusal).index = ap (λ (bad : BadWord). bad.index) c.bad_word-bad.ensures in
    let small : (c.number.result < 4096) × (c.bad_word-bad.result.index < 1024) =
    let fits = c.requires.1.1.1 in
    (omega (arith, fits.0, kind_is), omega (arith, fits.1.0, index_is)) in
    record { fits = omega (arith, small) }

pub overflow_add-result-2 : goal.overflow_add-result-2
overflow_add-result-2 c =
    let kind_is : c.number.result ≡ kind_number (bad_word_in c.args.refusal).kind = c.number.ensures ∙ ap (λ (bad : BadWord). kind_number bad.kind) c.bad_word-bad.ensures in
    let index_is : c.bad_word-bad.result.index ≡ (bad_word_in c.args.refusal).index = ap (λ (bad : BadWord). bad.index) c.bad_word-bad.ensures in
    let small : (c.number.result < 4096) × (c.bad_word-bad.result.index < 1024) =
    let fits = c.requires.1.1.1 in
    (omega (arith, fits.0, kind_is), omega (arith, fits.1.0, index_is)) in
    record { fits = omega (arith, small) }

pub returns : goal.returns
returns c =
    let kind_is : c.number.result ≡ kind_number (bad_word_in c.args.refusal).kind = c.number.ensures ∙ ap (λ (bad : BadWord). kind_number bad.kind) c.bad_word-bad.ensures in
    let index_is : c.bad_word-bad.result.index ≡ (bad_word_in c.args.refusal).index = ap (λ (bad : BadWord). bad.index) c.bad_word-bad.ensures in
    omega (arith, c.number-number.ensures, kind_is, index_is)
