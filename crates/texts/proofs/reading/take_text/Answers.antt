-- `texts::reading::take_text` meets its contract. The loop's invariant: the buffer holds what the bytes passed give. Assumes nothing.
use Rattle.std.proofs.Common.{◌≡◌, ℕ, ◌+◌, ◌<◌, List, [], ◌∷◌, length, take, drop, get_or, Result, Ok, Err, sym, ap, ◌∙◌}
use Rattle.std.proofs.lemmas.List.{take_more, take-append-drop}
use Rattle.std.proofs.lemmas.Result.{err_from_is_err_and}
use Rattle.refusals.specs.Outcome.{Outcome, outcome}
use Rattle.texts.specs.declared.reading.BadText.{BadText}
use Rattle.texts.specs.Reading.{Taken, held, taken, kept, taken_into}
use Rattle.texts.proofs.Taken.{taken-nil, taken-append, kept-held, kept_more, kept_bad}
use Rattle.texts.proofs.reading.take_text.Goals as goal

module _ (text old : List ℕ) (count : ℕ) where
  -- one byte more
  more : (buffer : List ℕ) (n i : ℕ) {o : Outcome (Result ℕ BadText)} → i < length text → length buffer ≡ length old
      → outcome (Ok n) buffer ≡ taken_into old count (take i text) → o ≡ taken_into buffer n (get_or text i 0 ∷ [])
      → o ≡ taken_into old count (take (i + 1) text)
  more buffer n i h same e k =
      let byte = get_or text i 0 in
      let begun = taken (length old) (held count old) (take i text) in
      rw (take_more text i 0 h, taken-append (length old) (held count old) (take i text) (byte ∷ []))
      (kept_more (length old) begun n buffer old (byte ∷ []) e (k ∙ ap (λ (l : ℕ). kept (taken l (held n buffer) (byte ∷ [])) buffer) same))

  -- bad after some bytes
  stop : (buffer : List ℕ) (i : ℕ) → outcome (Err record {}) buffer ≡ taken_into old count (take i text)
      → outcome (Err record {}) buffer ≡ taken_into old count text
  stop buffer i e =
      kept_bad (length old) (taken (length old) (held count old) (take i text)) buffer old (drop i text) e
      ∙ ap (λ (t : Taken). kept t old) (sym (taken-append (length old) (held count old) (take i text) (drop i text)))
      ∙ ap (λ (u : List ℕ). taken_into old count u) (take-append-drop i text)

pub loop-byte-init : goal.loop-byte-init
loop-byte-init c =
    let old = c.args.bits.now in
    sym (ap (λ (t : Taken). kept t old) (taken-nil (length old) (held c.args.count old)) ∙ kept-held old c.args.count c.requires)

pub returns-in_err-held : goal.returns-in_err-held
returns-in_err-held c =
    let a = c.args in
    let l = c.loop-byte in
    let p = err_from_is_err_and c.from_residual.result c.from_residual.ensures.1 in
    rw p.1 (stop a.text.now a.bits.now a.count _ (l.byte-index + 1)
    (more a.text.now a.bits.now a.count l.bits l.held l.byte-index c.loop-byte-test.true l.auto.bits l.invariant c.in_err-held.ensures))

pub loop-byte-preserved : goal.loop-byte-preserved
loop-byte-preserved c =
    let a = c.args in
    let l = c.loop-byte in
    more a.text.now a.bits.now a.count l.bits l.held l.byte-index c.loop-byte-test.true l.auto.bits l.invariant c.in_ok-held.ensures
