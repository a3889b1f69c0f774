-- The first fault of a text is where it turns bad: the bytes before it leave the text good, and with it the text is bad.
-- Assumes nothing.
use mathlib.Core.Path.{◌≡◌, refl, sym, ap, ◌∙◌}
use mathlib.Core.Bool.{Bool, true, false}
use mathlib.Core.List.{List, [], ◌∷◌, ◌++◌}
use Prim.Native.Nat.{ℕ, suc, ◌+◌, ◌-◌, ◌≤◌, ◌<◌}
use native.Mathlib.Nat.{lt_of_not-le}
use native.Mathlib.Numerals.{add-one}
use native.Mathlib.Omega.{arith}
use borrow.Author.Tests.{eqb-true, eqb-false, lt-ltb, le-ltb}
use lib.ListN.{length, take, drop, length-append, take-append-drop}
use lib.Seq.{take_all, length-take-le}
use Rattle.bits.proofs.Tests.{clash}
use Rattle.refusals.specs.Outcome.{Outcome, outcome}
use Rattle.texts.specs.declared.reading.Character.{Character}
use Rattle.texts.specs.declared.reading.Character.TheVariants.{Bit, Skipped, Other}
use Rattle.texts.specs.declared.reading.BadText.{BadText}
use Rattle.std.specs.Prelude.{Result, Err}
use Rattle.texts.specs.Reading.{Taken, good, bad, character_of, with_character, taken, progress_of, held, taken_into}
use Rattle.texts.specs.Faults.{is_fault, room_after, good_bytes}
use Rattle.texts.proofs.Taken.{taken-nil, taken-one, taken-append, taken_bad, next_good}

-- how many good bytes, a byte at a time
none_of_nil : (room : ℕ) → good_bytes room [] ≡ 0
unfolding good_bytes
none_of_nil room = refl

module _ (room byte : ℕ) (text : List ℕ) {x : Character} (e : character_of byte ≡ x) where
  none_at_fault : is_fault room x ≡ true → good_bytes room (byte ∷ text) ≡ 0
  unfolding good_bytes
  none_at_fault f = rw (e, f)

  one_more : is_fault room x ≡ false → good_bytes room (byte ∷ text) ≡ suc (good_bytes (room_after room x) text)
  unfolding good_bytes
  one_more f = rw (e, f)

abbrev pub IsGood : Taken → Type 0
IsGood t = (s : List ℕ) × (t ≡ good s)

abbrev pub IsBad : Taken → Type 0
IsBad t = (s : List ℕ) × (t ≡ bad s)

-- after the bits s, a text turns bad with the byte that follows its first k; where no byte follows them, it stays good
pub record TurnsBad (limit : ℕ) (s text : List ℕ) (k : ℕ) : Type 0 where
  pub good_before : IsGood (taken limit (good s) (take k text))
  pub bad_after : k < length text → IsBad (taken limit (good s) (take (k + 1) text))

-- a character that is a fault makes a text bad
at_fault : (limit : ℕ) (s : List ℕ) (x : Character) → is_fault (limit - length s) x ≡ true → with_character limit s x ≡ bad s
at_fault limit s (Bit b) f =
    let full : limit ≤ length s = omega (arith, eqb-true (limit - length s) 0 f) in
    rw (le-ltb (length s) limit full)
at_fault limit s Skipped f = clash (cc)
at_fault limit s Other f = refl

-- the bits after a character that is no fault, with the room that they leave
record Further (limit : ℕ) (s : List ℕ) (x : Character) : Type 0 where
  bits : List ℕ
  stays : with_character limit s x ≡ good bits
  within : length bits ≤ limit
  leaves : room_after (limit - length s) x ≡ limit - length bits

further : (limit : ℕ) (s : List ℕ) (x : Character) → length s ≤ limit → is_fault (limit - length s) x ≡ false → Further limit s x
further limit s (Bit b) h f =
    let more = length-append s (b ∷ []) in
    let room : length s < limit = omega (arith, eqb-false (limit - length s) 0 f) in
    record { bits = s ++ b ∷ []; stays = rw (lt-ltb (length s) limit room); within = omega (arith, more); leaves = omega (arith, more) }
further limit s Skipped h f = record { bits = s; stays = refl; within = h; leaves = refl }
further limit s Other h f = clash (cc)

module _ (limit : ℕ) (s : List ℕ) (byte : ℕ) (text : List ℕ) where
  at_once : is_fault (limit - length s) (character_of byte) ≡ true → TurnsBad limit s (byte ∷ text) 0
  at_once f = record {
    good_before = (s, taken-nil limit (good s));
    bad_after = λ _. (s, taken-one limit (good s) byte ∙ next_good limit s byte refl ∙ at_fault limit s (character_of byte) f);
  }

  later : (k : ℕ) (w : Further limit s (character_of byte)) → TurnsBad limit w.bits text k → TurnsBad limit s (byte ∷ text) (suc k)
  unfolding taken
  later k w rest =
      let on : (u : List ℕ) → taken limit (good s) (byte ∷ u) ≡ taken limit (good w.bits) u =
      λ u. ap (λ (t : Taken). taken limit t u) (next_good limit s byte refl ∙ w.stays) in
      record {
        good_before = (rest.good_before.0, on (take k text) ∙ rest.good_before.1);
        bad_after = λ h.
            let b = rest.bad_after (omega arith) in
            rw (add-one (suc k)) (b.0, on (take (suc k) text) ∙ (rw add-one at b.1));
      }

  turns : (t : Bool) → is_fault (limit - length s) (character_of byte) ≡ t → length s ≤ limit
      → ((v : List ℕ) → length v ≤ limit → TurnsBad limit v text (good_bytes (limit - length v) text))
      → TurnsBad limit s (byte ∷ text) (good_bytes (limit - length s) (byte ∷ text))
  turns true f h rest = rw (none_at_fault (limit - length s) byte text refl f) (at_once f)
  turns false f h rest =
      let w = further limit s (character_of byte) h f in
      rw (one_more (limit - length s) byte text refl f, w.leaves) (later _ w (rest w.bits w.within))

-- a text turns bad after its good bytes
pub turns_bad : (limit : ℕ) (s text : List ℕ) → length s ≤ limit → TurnsBad limit s text (good_bytes (limit - length s) text)
turns_bad limit s [] h = rw (none_of_nil (limit - length s)) record {
  good_before = (s, taken-nil limit (good s));
  bad_after = λ k. absurd (omega arith);
}
turns_bad limit s (byte ∷ text) h = turns limit s byte text (is_fault (limit - length s) (character_of byte)) refl h (λ v k. turns_bad limit v text k)

-- so a text is bad exactly where a byte follows its good bytes
module _ (limit : ℕ) (s text : List ℕ) (h : length s ≤ limit) where
  pub bad_where_fault : good_bytes (limit - length s) text < length text → IsBad (taken limit (good s) text)
  bad_where_fault f =
      let k = good_bytes (limit - length s) text + 1 in
      let b = (turns_bad limit s text h).bad_after f in (
        b.0,
        ap (taken limit (good s)) (sym (take-append-drop k text)) ∙ taken-append limit (good s) (take k text) (drop k text)
            ∙ ap (λ (t : Taken). taken limit t (drop k text)) b.1 ∙ taken_bad limit b.0 (drop k text),
      )

  pub fault_where_bad : IsBad (taken limit (good s) text) → good_bytes (limit - length s) text < length text
  fault_where_bad b = lt_of_not-le λ k.
      let g = (turns_bad limit s text h).good_before in
      clash (cc (ap (taken limit (good s)) (take_all _ text k)))

-- an answer that a text is bad
is_bad_lem : (t : Taken) → Err record {} ≡ progress_of t → IsBad t
is_bad_lem (good s) e = clash (cc)
is_bad_lem (bad s) e = (s, refl)

-- a part of a text that is answered to be bad has a fault
pub fault_in_part : (old : List ℕ) (count : ℕ) (part buffer : List ℕ) → count ≤ length old → length buffer ≡ length old
    → outcome (Err record {}) buffer ≡ taken_into old count part → (count ≤ length buffer) × (good_bytes (length buffer - count) part < length part)
fault_in_part old count part buffer h same e =
    let size : length (take count old) ≡ count = length-take-le count old h in
    let answer = is_bad_lem (taken (length old) (held count old) part) (ap (λ (o : Outcome (Result ℕ BadText)). o.answer) e) in
    rw same (h, rw size at (fault_where_bad (length old) (take count old) part (omega arith) answer))
