-- The ends of a damaged window agree where of each two places i and i + n, which held the same bit, both are changed or neither is, and only
-- there. Assumes nothing.
use Prim.Native.Nat.{ℕ, ◌+◌, ◌<◌}
use mathlib.Core.Path.{◌≡◌, sym, ◌∙◌}
use mathlib.Core.List.{List}
use native.Mathlib.Decide.{ℕ_discrete}
use native.Mathlib.Omega.{arith}
use lib.Dec.{T}
use lib.ListN.{length, get_or, take, drop, length-take, length-drop}
use lib.Seq.{ext_get_or, get_or-take, get_or-drop}
use Rattle.bits.specs.Bits.{all_bits}
use Rattle.bits.proofs.AllBits.{all_bits-get_or}
use Rattle.formats.specs.Numbers.{Numbers}
use Rattle.formats.proofs.Sizes.{Sizes}
use Rattle.damage.specs.Bursts.{Changed}
use Rattle.damage.specs.Scattered.{Paired}
use Rattle.damage.proofs.Places.{unchanged}
use Rattle.damage.proofs.Windows.{Whole, repeated}

module _ (F : Numbers) (S : Sizes F) (w v : List ℕ) (whole : Whole F w) (size : length v ≡ length w) where
  -- where the ends agree
  pub ends_paired : drop F.n v ≡ take F.r v → Paired F w v
  ends_paired e i below =
      let here : i < length w = omega (arith, whole.size) in
      let there : F.n + i < length w = omega (arith, whole.size) in
      let then = repeated F w whole.ends i below in
      let now = repeated F v e i below in
      ((λ c. (there, λ same. c.1 (sym now ∙ same ∙ then))), λ c. (here, λ same. c.1 (now ∙ same ∙ sym then)))

  -- two bits that are both changed are the same where they were
  bits_paired : T (all_bits v) → (i j : ℕ) → get_or w j 0 ≡ get_or w i 0 → Changed w v i → Changed w v j → get_or v j 0 ≡ get_or v i 0
  bits_paired bits i j same c d =
      omega (arith, all_bits-get_or v i bits, all_bits-get_or v j bits, all_bits-get_or w i whole.bits, all_bits-get_or w j whole.bits, c.1, d.1)

  -- the other way
  pub paired_ends : T (all_bits v) → Paired F w v → drop F.n v ≡ take F.r v
  paired_ends bits paired =
      let within = S.r_within in
      ext_get_or 0 (drop F.n v) (take F.r v) (length-drop F.n v ∙ omega (arith, length-take F.r v, whole.size)) λ i below.
      let inside : i < F.r = omega (arith, length-drop F.n v, whole.size) in
      get_or-drop F.n v i 0 ∙ at i inside (ℕ_discrete (get_or v i 0) (get_or w i 0)) ∙ sym (get_or-take F.r v i 0 inside)
    where
      at : (i : ℕ) → i < F.r → Dec (get_or v i 0 ≡ get_or w i 0) → get_or v (F.n + i) 0 ≡ get_or v i 0
      at i inside (yes e) =
          let there : F.n + i < length w = omega (arith, whole.size) in
          unchanged w v (F.n + i) there (λ c. ((paired i inside).1 c).1 e) ∙ repeated F w whole.ends i inside ∙ sym e
      at i inside (no f) =
          let here : i < length w = omega (arith, whole.size) in
          bits_paired bits i (F.n + i) (repeated F w whole.ends i inside) (here, f) ((paired i inside).0 (here, f))
