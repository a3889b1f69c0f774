-- `texts::reading::take_byte` meets its contract. Assumes nothing.
use mathlib.Core.Path.{◌≡◌, sym, ap, ap₂, ◌∙◌}
use mathlib.Core.List.{List, [], ◌∷◌, ◌++◌}
use Prim.Native.Nat.{ℕ, suc, ◌+◌, ◌≤◌, ◌<◌}
use native.Mathlib.Numerals.{add-one}
use native.Mathlib.Omega.{arith}
use borrow.Author.Tests.{lt-ltb, le-ltb}
use lib.ListN.{length, take, drop, set, length-append}
use lib.Seq.{length-take-le, set_split, append_snoc}
use Rattle.refusals.specs.Outcome.{Outcome, outcome}
use Rattle.texts.specs.declared.reading.BadText.{BadText}
use Rattle.std.specs.Prelude.{Result, Ok, Err}
use Rattle.texts.specs.declared.reading.Character.{Character}
use Rattle.texts.specs.declared.reading.Character.TheVariants.{Bit}
use Rattle.texts.specs.Reading.{Taken, character_of, with_character, held, kept, taken_into}
use Rattle.texts.proofs.Taken.{taken-one, next_good, over-same, kept-held}
use Rattle.texts.proofs.reading.take_byte.Goals as goal

-- a bit for which there is room
room : (b : List ℕ) (n bit : ℕ) → n < length b → kept (with_character (length b) (take n b) (Bit bit)) b ≡ outcome (Ok (n + 1)) (set b n bit)
room b n bit h =
    let size : length (take n b) ≡ n = length-take-le n b (omega arith) in
    let more : length (take n b ++ bit ∷ []) ≡ n + 1 = length-append (take n b) (bit ∷ []) ∙ ap (λ (k : ℕ). k + 1) size in
    rw (size, lt-ltb n (length b) h)
    (ap₂ outcome (ap Ok more)
    (ap (λ (k : ℕ). (take n b ++ bit ∷ []) ++ drop k b) (more ∙ add-one n) ∙ append_snoc (take n b) bit (drop (suc n) b) ∙ sym (set_split b n bit h)))

-- a bit for which there is none
full : (b : List ℕ) (n bit : ℕ) → n ≤ length b → length b ≤ n → kept (with_character (length b) (take n b) (Bit bit)) b ≡ outcome (Err record {}) b
full b n bit h k = rw (length-take-le n b h, le-ltb n (length b) k) (ap (outcome (Err record {})) (over-same b n h))

-- what is left of a byte after its character is known
known : (b : List ℕ) (n byte : ℕ) {x : Character} {o : Outcome (Result ℕ BadText)} → character_of byte ≡ x → kept (with_character (length b) (take n b) x) b ≡ o
    → o ≡ taken_into b n (byte ∷ [])
known b n byte e k = sym (ap (λ (t : Taken). kept t b) (taken-one (length b) (held n b) byte ∙ next_good (length b) (take n b) byte e) ∙ k)

pub returns-then-count-bits : goal.returns-then-count-bits
returns-then-count-bits c =
    let a = c.args in
    known a.bits.now a.count a.byte (sym c.in-Bit.ensures)
    (room a.bits.now a.count c.in-Bit.bit (omega arith))

pub returns-else-count-bits : goal.returns-else-count-bits
returns-else-count-bits c =
    let a = c.args in
    known a.bits.now a.count a.byte (sym c.in-Bit.ensures)
    (full a.bits.now a.count c.in-Bit.bit c.requires (omega arith))

pub returns-in-Skipped : goal.returns-in-Skipped
returns-in-Skipped c =
    let a = c.args in
    known a.bits.now a.count a.byte (sym c.in-Skipped.ensures)
    (kept-held a.bits.now a.count c.requires)

pub returns-in-Other : goal.returns-in-Other
returns-in-Other c =
    let a = c.args in
    known a.bits.now a.count a.byte (sym c.in-Other.ensures)
    (ap (outcome (Err record {})) (over-same a.bits.now a.count c.requires))
