-- A loop that writes a buffer from the front: the first i elements of what is to be written are in place, and the rest of the buffer is
-- as it was. Assumes nothing.
use mathlib.Core.Path.{◌≡◌, refl, sym, ap, ap₂, ◌∙◌}
use mathlib.Core.List.{List, [], ◌∷◌, ◌++◌, append-nil}
use Prim.Native.Nat.{ℕ, ◌+◌, ◌<◌}
use native.Mathlib.Numerals.{add-one}
use native.Mathlib.Omega.{arith}
use lib.ListN.{length, get_or, take, drop, set, length-set, take-append-drop}
use lib.Seq.{get_or-drop, take-suc-set, drop-set-lt, drop-drop, append_snoc}

-- whole is to be written over the front of old; after i stores the buffer is buf, and rest is still to come
pub record Written (whole old buf rest : List ℕ) (i : ℕ) : Type 0 where
  pub front : whole ≡ take i buf ++ rest
  pub back : drop i buf ≡ drop i old
  pub same : length buf ≡ length old

-- nothing is written yet
pub written_none : {whole old rest : List ℕ} → whole ≡ rest → Written whole old old rest 0
written_none e = record { front = e; back = refl; same = refl }

-- the next element is stored
pub written_more : {whole old buf rest rest' : List ℕ} {i a : ℕ} → Written whole old buf rest i → i < length old → rest ≡ a ∷ rest'
    → Written whole old (set buf i a) rest' (i + 1)
written_more {old} {buf} {rest'} {i} {a} w h e =
    let k : i < length buf = omega (arith, w.same) in
    record {
      front = w.front ∙ ap (λ (l : List ℕ). take i buf ++ l) e ∙ sym (rw (add-one, take-suc-set buf i a k) (append_snoc (take i buf) a rest'));
      back = drop-set-lt (i + 1) buf i a (omega arith) ∙ sym (drop-drop 1 i buf) ∙ ap (drop 1) w.back ∙ drop-drop 1 i old;
      same = length-set buf i a ∙ w.same;
    }

-- everything is written
pub written_done : {whole old buf rest : List ℕ} {i : ℕ} → Written whole old buf rest i → rest ≡ [] → buf ≡ whole ++ drop i old
written_done {buf} {i} w e =
    sym (take-append-drop i buf)
    ∙ ap₂ ◌++◌ (sym (w.front ∙ ap (λ (l : List ℕ). take i buf ++ l) e ∙ append-nil (take i buf))) w.back

-- what stands at the next place is still the old element
pub written_next : {whole old buf rest : List ℕ} {i : ℕ} → Written whole old buf rest i → get_or buf i 0 ≡ get_or old i 0
written_next {old} {buf} {i} w =
    let e : i + 0 ≡ i = omega arith in
    ap (λ (n : ℕ). get_or buf n 0) (sym e) ∙ sym (get_or-drop i buf 0 0) ∙ ap (λ (l : List ℕ). get_or l 0 0) w.back
    ∙ get_or-drop i old 0 0 ∙ ap (λ (n : ℕ). get_or old n 0) e
