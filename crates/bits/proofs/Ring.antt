-- Bits of a ring: their number, their parts, the turn of the whole, and the flip. Assumes nothing.
use mathlib.Core.Path.{◌≡◌, refl, sym, ap, ap₂, ◌∙◌}
use mathlib.Core.List.{List, ◌∷◌, ◌++◌}
use Prim.Native.Nat.{ℕ, zero, suc, ◌+◌, ◌-◌, ◌*◌, ◌%◌, ◌≤◌, ◌<◌}
use native.Mathlib.Nat.{suc-add, add-suc, add-zero, zero-add, zero-mul, suc-mul, add_assoc, mod-eq_of_lt, add-mod-mod, add-mod_right, mod-lt, le_of_suc-le-suc}
use native.Mathlib.Omega.{arith}
use lib.Dec.{T}
use lib.ListN.{length, get_or, take, drop, length-take, length-drop}
use lib.Seq.{take_all, take_at, drop_at, ext_get_or, get_or-take, get_or-drop}
use Rattle.bits.specs.Bits.{all_bits, around, flip}
use Rattle.bits.proofs.AllBits.{all_bits-nil, all_bits-cons, all_bits-get_or}
use Rattle.bits.proofs.Flipped.{length-flip, get_or-flip}

pub length-around : (k p : ℕ) (b : List ℕ) → length (around k p b) ≡ k
unfolding around
length-around zero p b = refl
length-around (suc k) p b = ap suc (length-around k (suc p) b)

pub all_bits-around : (k p : ℕ) (b : List ℕ) → T (all_bits b) → T (all_bits (around k p b))
unfolding around
all_bits-around zero p b h = all_bits-nil
all_bits-around (suc k) p b h =
    all_bits-cons (get_or b (p % length b) 0) (around k (suc p) b) (all_bits-get_or b (p % length b) h) (all_bits-around k (suc p) b h)

-- the bit at index i
pub get_or-around : (k p : ℕ) (b : List ℕ) (i : ℕ) → i < k → get_or (around k p b) i 0 ≡ get_or b ((p + i) % length b) 0
unfolding around
get_or-around zero p b i h = absurd (omega arith)
get_or-around (suc k) p b zero h = ap (λ (x : ℕ). get_or b (x % length b) 0) (sym (add-zero p))
get_or-around (suc k) p b (suc i) h =
    get_or-around k (suc p) b i (le_of_suc-le-suc h) ∙ ap (λ (x : ℕ). get_or b (x % length b) 0) (suc-add p i ∙ sym (add-suc p i))

-- first j bits, then the rest
pub around-append : (j k p : ℕ) (b : List ℕ) → around (j + k) p b ≡ around j p b ++ around k (p + j) b
unfolding around
around-append zero k p b = rw (zero-add, add-zero)
around-append (suc j) k p b =
    let place : suc p + j ≡ p + suc j = omega arith in
    rw (suc-add j k) (ap (λ (l : List ℕ). get_or b (p % length b) 0 ∷ l) (around-append j k (suc p) b ∙ ap (λ (x : ℕ). around j (suc p) b ++ around k x b) place))

pub take-around : (j k p : ℕ) (b : List ℕ) → take j (around (j + k) p b) ≡ around j p b
take-around j k p b = rw around-append (take_at (around j p b) (around k (p + j) b) j (length-around j p b))

pub drop-around : (j k p : ℕ) (b : List ℕ) → drop j (around (j + k) p b) ≡ around k (p + j) b
drop-around j k p b = rw around-append (drop_at (around j p b) (around k (p + j) b) j (length-around j p b))

-- once round is the same place
pub around_period : (k p : ℕ) (b : List ℕ) → around k (p + length b) b ≡ around k p b
unfolding around
around_period zero p b = refl
around_period (suc k) p b =
    ap₂ (λ (x : ℕ) (l : List ℕ). get_or b x 0 ∷ l) (add-mod_right p (length b))
    (ap (λ (x : ℕ). around k x b) (sym (suc-add p (length b))) ∙ around_period k (suc p) b)

-- and so are any number of rounds
pub around_rounds : (k p m : ℕ) (b : List ℕ) → around k (p + m * length b) b ≡ around k p b
around_rounds k p zero b = rw (zero-mul, add-zero)
around_rounds k p (suc m) b = rw (suc-mul, ← add_assoc) (around_period k (p + m * length b) b ∙ around_rounds k p m b)

-- where the end is not reached the bits stand on a strip
pub around_strip : (k p : ℕ) (b : List ℕ) → p + k ≤ length b → around k p b ≡ take k (drop p b)
around_strip k p b h =
    let size : length (around k p b) ≡ length (take k (drop p b)) = length-around k p b ∙ simp (length-take, length-drop) (omega arith) in
    ext_get_or 0 (around k p b) (take k (drop p b)) size λ i below.
    let ik : i < k = omega (arith, length-around k p b) in
    let inside : p + i < length b = omega arith in
    get_or-around k p b i ik ∙ ap (λ (x : ℕ). get_or b x 0) (mod-eq_of_lt inside) ∙ sym (get_or-take k (drop p b) i 0 ik ∙ get_or-drop p b i 0)

-- all bits from place t on are the telegram turned by t
pub around-turned : (t : ℕ) (b : List ℕ) → t ≤ length b → around (length b) t b ≡ drop t b ++ take t b
around-turned t b h =
    let parts : length b ≡ (length b - t) + t = omega arith in
    let whole : t + (length b - t) ≡ 0 + length b = omega arith in
    let left : t + (length b - t) ≤ length b = omega arith in
    ap (λ (x : ℕ). around x t b) parts ∙ around-append (length b - t) t t b
    ∙ ap₂ ◌++◌
    (around_strip (length b - t) t b left ∙ take_all (length b - t) (drop t b) (simp length-drop (omega arith)))
    (ap (λ (x : ℕ). around t x b) whole ∙ around_period t 0 b ∙ around_strip t 0 b (omega arith))

-- bits of the ring turned by t stand t places further on
pub around-around : (k p t : ℕ) (b : List ℕ) → 0 < length b → around k p (around (length b) t b) ≡ around k (t + p) b
around-around k p t b some =
    let n = length b in
    let v = around n t b in
    let size : length (around k p v) ≡ k = length-around k p v in
    ext_get_or 0 (around k p v) (around k (t + p) b) (size ∙ sym (length-around k (t + p) b)) λ i below.
    let ik : i < k = omega (arith, size) in
    get_or-around k p v i ik ∙ ap (λ (x : ℕ). get_or v ((p + i) % x) 0) (length-around n t b)
    ∙ get_or-around n t b ((p + i) % n) (mod-lt (p + i) some)
    ∙ ap (λ (x : ℕ). get_or b x 0) (add-mod-mod t (p + i) n ∙ ap (λ (x : ℕ). x % n) (sym (add_assoc t p i)))
    ∙ sym (get_or-around k (t + p) b i ik)

-- the flip of bits of a ring
pub flip-around : (k p : ℕ) (b : List ℕ) → 0 < length b → flip (around k p b) ≡ around k p (flip b)
unfolding around flip
flip-around zero p b h = refl
flip-around (suc k) p b h =
    ap₂ (λ (x : ℕ) (l : List ℕ). x ∷ l)
    (sym (get_or-flip b (p % length b) (mod-lt p h)) ∙ ap (λ (n : ℕ). get_or (flip b) (p % n) 0) (sym (length-flip b)))
    (flip-around k (suc p) b h)
