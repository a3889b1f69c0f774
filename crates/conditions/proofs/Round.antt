-- Bits and words round a ring: places are counted modulo its length, a loop takes the next bit, words are cut into those before, one and
-- those after, and those that lie in a front part are that part's. Assumes nothing.
use mathlib.Core.Path.{◌≡◌, refl, sym, ap, ap₂, ◌∙◌}
use mathlib.Core.Bool.{Bool}
use mathlib.Core.List.{List, [], ◌∷◌, ◌++◌}
use Prim.Native.Nat.{ℕ, zero, suc, ◌+◌, ◌-◌, ◌*◌, ◌%◌, ◌≤◌, ◌<◌}
use native.Mathlib.Nat.{mod-mod, mod-add-mod, mod-eq_of_lt, mod-eq-sub-mod}
use native.Mathlib.Numerals.{add-one}
use native.Mathlib.Omega.{arith}
use lib.ListN.{length, get_or, take, drop, length-append, length-drop}
use lib.Seq.{take-append-le, drop-append-le}
use Rattle.bits.specs.Bits.{around}
use Rattle.bits.proofs.Rest.{count_more, count_done}
use Rattle.bits.proofs.Ring.{around_period, around_strip}
use Rattle.words.specs.Words.{is_word}
use Rattle.conditions.specs.Runs.{valid_words}

-- a place once past the end
pub mod_past : (x n : ℕ) → n ≤ x → x < n + n → x % n ≡ x - n
mod_past x n past once =
    let inside : x - n < n = omega arith in
    mod-eq-sub-mod past ∙ mod-eq_of_lt inside

-- places count modulo the length
pub around-mod : (k p : ℕ) (b : List ℕ) → around k (p % length b) b ≡ around k p b
unfolding around
around-mod zero p b = refl
around-mod (suc k) p b =
    let n = length b in
    ap₂ (λ (x : ℕ) (l : List ℕ). get_or b x 0 ∷ l) (mod-mod p n)
    (sym (around-mod k (suc (p % n)) b)
    ∙ ap (λ (x : ℕ). around k x b) (rw (← add-one (p % n), ← add-one p) (mod-add-mod p n 1))
    ∙ around-mod k (suc p) b)

-- of k bits from place p, after i of them: the next, and the rest after it
pub around_more : (k i p : ℕ) (b : List ℕ) → i < k → p < length b
    → around (k - i) p b ≡ get_or b p 0 ∷ around (k - (i + 1)) ((p + 1) % length b) b
unfolding around
around_more k i p b h inside =
    ap (λ (x : ℕ). around x p b) (count_more h)
    ∙ ap₂ (λ (x : ℕ) (l : List ℕ). get_or b x 0 ∷ l) (mod-eq_of_lt inside)
    (ap (λ (x : ℕ). around (k - (i + 1)) x b) (sym (add-one p)) ∙ sym (around-mod (k - (i + 1)) (p + 1) b))

pub around_done : (k i p : ℕ) (b : List ℕ) → k ≤ i → around (k - i) p b ≡ []
unfolding around
around_done k i p b h = ap (λ (x : ℕ). around x p b) (count_done h)

-- bits that lie in the front part
pub around-front : (k p : ℕ) (d rest : List ℕ) → p + k ≤ length d → around k p (d ++ rest) ≡ around k p d
around-front k p d rest inside =
    let whole : p + k ≤ length (d ++ rest) = simp length-append (omega arith) in
    let left : k ≤ length (drop p d) = simp length-drop (omega arith) in
    around_strip k p (d ++ rest) whole ∙ ap (take k) (drop-append-le p d rest (omega arith))
    ∙ take-append-le k (drop p d) rest left ∙ sym (around_strip k p d inside)

pub length-valid_words : (k p : ℕ) (b : List ℕ) → length (valid_words k p b) ≡ k
unfolding valid_words
length-valid_words zero p b = refl
length-valid_words (suc k) p b = ap suc (length-valid_words k (p + 11) b)

pub valid_words-mod : (k p : ℕ) (b : List ℕ) → valid_words k (p % length b) b ≡ valid_words k p b
unfolding valid_words
valid_words-mod zero p b = refl
valid_words-mod (suc k) p b =
    let n = length b in
    ap₂ (λ (x : List ℕ) (l : List Bool). is_word x ∷ l) (around-mod 11 p b)
    (sym (valid_words-mod k (p % n + 11) b) ∙ ap (λ (x : ℕ). valid_words k x b) (mod-add-mod p n 11) ∙ valid_words-mod k (p + 11) b)

-- first j words, then the rest
pub valid_words-append : (j k p : ℕ) (b : List ℕ) → valid_words (j + k) p b ≡ valid_words j p b ++ valid_words k (p + 11 * j) b
unfolding valid_words
valid_words-append zero k p b =
    let count : zero + k ≡ k = omega arith in
    let place : p + 11 * zero ≡ p = omega arith in
    rw (count, place)
valid_words-append (suc j) k p b =
    let count : suc j + k ≡ suc (j + k) = omega arith in
    let place : p + 11 + 11 * j ≡ p + 11 * suc j = omega arith in
    ap (λ (x : ℕ). valid_words x p b) count
    ∙ ap (λ (l : List Bool). is_word (around 11 p b) ∷ l)
    (valid_words-append j k (p + 11) b ∙ ap (λ (x : ℕ). valid_words j (p + 11) b ++ valid_words k x b) place)

-- j words, one more, and the rest
pub valid_words-one : (j k p : ℕ) (b : List ℕ)
    → valid_words (j + suc k) p b ≡ valid_words j p b ++ is_word (around 11 (p + 11 * j) b) ∷ valid_words k (p + 11 * suc j) b
unfolding valid_words
valid_words-one j k p b =
    let place : p + 11 * j + 11 ≡ p + 11 * suc j = omega arith in
    valid_words-append j (suc k) p b ∙ ap (λ (x : ℕ). valid_words j p b ++ is_word (around 11 (p + 11 * j) b) ∷ valid_words k x b) place

-- once round is the same place
pub valid_words_period : (k p : ℕ) (b : List ℕ) → valid_words k (p + length b) b ≡ valid_words k p b
unfolding valid_words
valid_words_period zero p b = refl
valid_words_period (suc k) p b =
    let place : p + length b + 11 ≡ p + 11 + length b = omega arith in
    ap₂ (λ (x : List ℕ) (l : List Bool). is_word x ∷ l) (around_period 11 p b)
    (ap (λ (x : ℕ). valid_words k x b) place ∙ valid_words_period k (p + 11) b)

-- words that lie in the front part
pub valid_words-front : (k p : ℕ) (d rest : List ℕ) → p + 11 * k ≤ length d → valid_words k p (d ++ rest) ≡ valid_words k p d
unfolding valid_words
valid_words-front zero p d rest inside = refl
valid_words-front (suc k) p d rest inside =
    ap₂ (λ (x : List ℕ) (l : List Bool). is_word x ∷ l) (around-front 11 p d rest (omega arith))
    (valid_words-front k (p + 11) d rest (omega arith))
