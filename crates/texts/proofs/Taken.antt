-- Bits read from a text: a text taken in parts is the text taken whole, a bad text stays bad, and what a buffer then holds.
-- Assumes nothing.
use mathlib.Core.Path.{◌≡◌, refl, sym, ap, ap₂, ◌∙◌}
use mathlib.Core.Bool.{Bool, true, false, cond}
use mathlib.Core.List.{List, [], ◌∷◌, ◌++◌}
use Prim.Native.Nat.{ℕ, ◌+◌, ◌-◌, ◌≤◌}
use native.Mathlib.Nat.{le_refl, le_trans}
use native.Mathlib.Omega.{arith}
use lib.Dec.{ltb}
use lib.ListN.{length, take, drop, length-append, take-append-drop}
use lib.Seq.{length-take-le, take_at, drop-append-add, drop-drop}
use Rattle.bits.proofs.Tests.{clash}
use Rattle.refusals.specs.Outcome.{Outcome, outcome}
use Rattle.texts.specs.declared.reading.Character.{Character}
use Rattle.texts.specs.declared.reading.Character.TheVariants.{Bit, Skipped, Other}
use Rattle.texts.specs.declared.reading.BadText.{BadText}
use Rattle.std.specs.Prelude.{Result, Ok, Err}
use Rattle.texts.specs.Reading.{Taken, good, bad, character_of, with_character, next, taken, bits_in, held, over, kept}

pub taken-nil : (limit : ℕ) (t : Taken) → taken limit t [] ≡ t
unfolding taken
taken-nil limit t = refl

pub taken-one : (limit : ℕ) (t : Taken) (byte : ℕ) → taken limit t (byte ∷ []) ≡ next limit t byte
unfolding taken
taken-one limit t byte = refl

pub taken-append : (limit : ℕ) (t : Taken) (u v : List ℕ) → taken limit t (u ++ v) ≡ taken limit (taken limit t u) v
unfolding taken
taken-append limit t [] v = refl
taken-append limit t (byte ∷ u) v = taken-append limit (next limit t byte) u v

pub taken_bad : (limit : ℕ) (s text : List ℕ) → taken limit (bad s) text ≡ bad s
unfolding taken next
taken_bad limit s [] = refl
taken_bad limit s (byte ∷ text) = taken_bad limit s text

pub next_good : (limit : ℕ) (s : List ℕ) (byte : ℕ) {x : Character} → character_of byte ≡ x → next limit (good s) byte ≡ with_character limit s x
unfolding next
next_good limit s byte e = ap (with_character limit s) e

-- no bit is lost
picked_grows : (s : List ℕ) (b : ℕ) (t : Bool) → length s ≤ length (bits_in (cond t (good (s ++ b ∷ [])) (bad s)))
picked_grows s b true = omega (arith, length-append s (b ∷ []))
picked_grows s b false = le_refl (length s)

with_grows : (limit : ℕ) (s : List ℕ) (x : Character) → length s ≤ length (bits_in (with_character limit s x))
with_grows limit s (Bit b) = picked_grows s b (ltb (length s) limit)
with_grows limit s Skipped = le_refl (length s)
with_grows limit s Other = le_refl (length s)

next_grows : (limit : ℕ) (t : Taken) (byte : ℕ) → length (bits_in t) ≤ length (bits_in (next limit t byte))
unfolding next
next_grows limit (good s) byte = with_grows limit s (character_of byte)
next_grows limit (bad s) byte = le_refl (length s)

pub taken_grows : (limit : ℕ) (t : Taken) (text : List ℕ) → length (bits_in t) ≤ length (bits_in (taken limit t text))
unfolding taken
taken_grows limit t [] = le_refl (length (bits_in t))
taken_grows limit t (byte ∷ text) = le_trans (next_grows limit t byte) (taken_grows limit (next limit t byte) text)

-- a buffer whose own front is written over it is as it was
pub over-same : (b : List ℕ) (n : ℕ) → n ≤ length b → over (take n b) b ≡ b
over-same b n h = ap (λ (k : ℕ). take n b ++ drop k b) (length-take-le n b h) ∙ take-append-drop n b

pub kept-held : (b : List ℕ) (n : ℕ) → n ≤ length b → kept (held n b) b ≡ outcome (Ok n) b
kept-held b n h = ap₂ outcome (ap Ok (length-take-le n b h)) (over-same b n h)

-- what is written over a longer front that is written already
over-over : (s v old : List ℕ) → length s ≤ length v → over v (over s old) ≡ over v old
over-over s v old h =
    let split : length v ≡ length s + (length v - length s) = omega arith in
    ap (λ (l : List ℕ). v ++ l)
    (ap (λ (k : ℕ). drop k (over s old)) split ∙ drop-append-add s (drop (length s) old) (length v - length s)
    ∙ drop-drop (length v - length s) (length s) old ∙ ap (λ (k : ℕ). drop k old) (sym split))

-- a count and a buffer are those of a good text
counted : (t : Taken) (n : ℕ) (buffer old : List ℕ) → outcome (Ok n) buffer ≡ kept t old
    → (s : List ℕ) × (t ≡ good s) × (n ≡ length s) × (buffer ≡ over s old)
counted (good s) n buffer old e = (s, refl, cc (ap (λ (o : Outcome (Result ℕ BadText)). o.answer) e), ap (λ (o : Outcome (Result ℕ BadText)). o.output) e)
counted (bad s) n buffer old e = clash (cc (ap (λ (o : Outcome (Result ℕ BadText)). o.answer) e))

pub counted_within : (t : Taken) (n : ℕ) (buffer old : List ℕ) → outcome (Ok n) buffer ≡ kept t old → n ≤ length buffer
counted_within t n buffer old e =
    let w = counted t n buffer old e in
    omega (arith, w.2, ap length w.3 ∙ length-append w.0 (drop (length w.0) old))

-- a buffer that holds the bits of a text, and then those of a text more
pub kept_more : (limit : ℕ) (t : Taken) (n : ℕ) (buffer old more : List ℕ) {o : Outcome (Result ℕ BadText)} → outcome (Ok n) buffer ≡ kept t old
    → o ≡ kept (taken limit (held n buffer) more) buffer → o ≡ kept (taken limit t more) old
kept_more limit t n buffer old more e k =
    let w = counted t n buffer old e in
    let s = w.0 in
    let u = taken limit (good s) more in
    let same : held n buffer ≡ good s = ap good (ap₂ take w.2 w.3 ∙ take_at s (drop (length s) old) (length s) refl) in
    k ∙ ap (λ (x : Taken). kept (taken limit x more) buffer) same
    ∙ ap (λ (b : List ℕ). kept u b) w.3
    ∙ ap (outcome _) (over-over s (bits_in u) old (taken_grows limit (good s) more))
    ∙ ap (λ (x : Taken). kept (taken limit x more) old) (sym w.1)

-- a bad text is bad with any text more
pub kept_bad : (limit : ℕ) (t : Taken) (buffer old more : List ℕ) → outcome (Err record {}) buffer ≡ kept t old → outcome (Err record {}) buffer ≡ kept (taken limit t more) old
kept_bad limit (good s) buffer old more e = clash (cc (ap (λ (o : Outcome (Result ℕ BadText)). o.answer) e))
kept_bad limit (bad s) buffer old more e = e ∙ ap (λ (x : Taken). kept x old) (sym (taken_bad limit s more))

-- a byte that is no character
pub kept_stopped : (limit : ℕ) (t : Taken) (n : ℕ) (buffer old : List ℕ) → outcome (Ok n) buffer ≡ kept t old
    → outcome (Err record {}) buffer ≡ kept (taken limit t (0 ∷ [])) old
unfolding character_of
kept_stopped limit t n buffer old e =
    let w = counted t n buffer old e in
    let end : taken limit t (0 ∷ []) ≡ bad w.0 =
    ap (λ (x : Taken). taken limit x (0 ∷ [])) w.1 ∙ taken-one limit (good w.0) 0 ∙ next_good limit w.0 0 refl in
    ap (outcome (Err record {})) w.3 ∙ ap (λ (x : Taken). kept x old) (sym end)
