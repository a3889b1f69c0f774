-- The loop of a division, for a register of either kind: the run over all bits is the run over the rest from the register so far.
-- Assumes nothing.
use Rattle.std.proofs.Common.{◌≡◌, ℕ, ◌+◌, ◌^◌, ◌<◌, ◌≤◌, List, length, get_or, drop, sym, refl, ap, ◌∙◌}
use mathlib.Core.Path.{subst⁻¹}
use Rattle.bits.specs.Bits.{number_of, bits_of}
use Rattle.bits.proofs.AllBits.{all_bits-get_or}
use Rattle.bits.proofs.Rest.{rest_more, rest_done}
use Rattle.cyclic.specs.Machine.{step_v, Division}
use Rattle.cyclic.specs.Remainder.{remainder_from}
use Rattle.cyclic.proofs.Machine.Bridge.{run_v, step_fits, run_number}

-- a divisor d of degree k, started at v₀ over the bits s; after i of them the register is v
pub record Running (d k v₀ : ℕ) (s : List ℕ) (v i : ℕ) : Type 0 where
  pub fits : v < 2 ^ k
  pub same : run_v d (2 ^ k) v₀ s ≡ run_v d (2 ^ k) v (drop i s)

-- no bit is in yet
pub running_none : {d k v₀ : ℕ} {s : List ℕ} → Division k d v₀ s → Running d k v₀ s v₀ 0
running_none div = record { fits = div.fits; same = refl }

next : (d p v : ℕ) (s : List ℕ) (i : ℕ) → i < length s → run_v d p v (drop i s) ≡ run_v d p (step_v d p v (get_or s i 0)) (drop (i + 1) s)
unfolding run_v
next d p v s i h = ap (run_v d p v) (rest_more s i h)

end : (d p v : ℕ) (s : List ℕ) (i : ℕ) → length s ≤ i → run_v d p v (drop i s) ≡ v
unfolding run_v
end d p v s i h = ap (run_v d p v) (rest_done s i h)

-- one more bit
pub running_more : {d k v₀ v i w : ℕ} {s : List ℕ} → Division k d v₀ s → i < length s → w ≡ step_v d (2 ^ k) v (get_or s i 0)
    → Running d k v₀ s v i → Running d k v₀ s w (i + 1)
running_more {d} {k} {v} {i} {s} div h e r =
    record {
      fits = subst⁻¹ (λ (x : ℕ). x < 2 ^ k) e (step_fits k d v div.degree r.fits (get_or s i 0) (all_bits-get_or s i div.bits));
      same = r.same ∙ next d (2 ^ k) v s i h ∙ ap (λ (x : ℕ). run_v d (2 ^ k) x (drop (i + 1) s)) (sym e);
    }

-- every bit is in
pub running_done : {d k v₀ v i : ℕ} {s : List ℕ} → Division k d v₀ s → length s ≤ i → Running d k v₀ s v i
    → v ≡ number_of (remainder_from (bits_of k d) (bits_of k v₀) s)
running_done {d} {k} {v₀} {v} {i} {s} div h r =
    sym (r.same ∙ end d (2 ^ k) v s i h) ∙ run_number k d v₀ div.degree div.fits s div.bits
