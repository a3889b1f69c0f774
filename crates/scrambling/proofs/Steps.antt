-- What a loop over the bits of a block has left to scramble or, in the undoing, to descramble. Assumes nothing.
use Rattle.std.proofs.Common.{◌≡◌, ℕ, ◌+◌, ◌<◌, ◌≤◌, Bool, true, false, not, cond, eqb, List, [], ◌∷◌, length, get_or, drop, ap, ◌∙◌}
use Rattle.bits.proofs.Rest.{rest_more, rest_done}
use Rattle.scrambling.specs.Scrambling.{seed_of, top_bit, xor_bit, next_state, scrambled_from, descrambled_from, scrambled, descrambled}

-- the test of a const parameter that is a `bool`, from the number that it is
abbrev pub undoes : ℕ → Bool
undoes n = not (eqb n 0)

-- the bits u passed through the register r
abbrev pub passed_from : Bool → ℕ → List ℕ → List ℕ
passed_from undo r u = cond undo (descrambled_from r u) (scrambled_from r u)

-- the register is at its start
pub passed_start : (undo : Bool) (b : ℕ) (u : List ℕ) {r : ℕ} → r ≡ seed_of b → cond undo (descrambled b u) (scrambled b u) ≡ passed_from undo r u
unfolding scrambled descrambled
passed_start true b u e = rw e
passed_start false b u e = rw e

-- the bit o comes out, and then the rest, from the register r' that was fed the scrambled bit s
pub passed_more : (undo : Bool) (r : ℕ) (u : List ℕ) (i : ℕ) → i < length u → {o s r' : ℕ} → o ≡ xor_bit (top_bit r) (get_or u i 0) → s ≡ cond undo (get_or u i 0) o
    → r' ≡ next_state r s → passed_from undo r (drop i u) ≡ o ∷ passed_from undo r' (drop (i + 1) u)
unfolding scrambled_from descrambled_from
passed_more true r u i h p q e = ap (descrambled_from r) (rest_more u i h) ∙ rw (e, q, p)
passed_more false r u i h p q e = ap (scrambled_from r) (rest_more u i h) ∙ rw (e, q, p)

-- every bit is passed
pub passed_done : (undo : Bool) (r : ℕ) (u : List ℕ) (i : ℕ) → length u ≤ i → passed_from undo r (drop i u) ≡ []
unfolding scrambled_from descrambled_from
passed_done true r u i h = ap (descrambled_from r) (rest_done u i h)
passed_done false r u i h = ap (scrambled_from r) (rest_done u i h)
