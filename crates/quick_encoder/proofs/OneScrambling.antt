-- The pairs of one B in counting order: the first esb with which the shaped data of B is completed is the next proper pair, and where there is
-- none the search goes on with the next B. Assumes nothing.
use mathlib.Core.Path.{◌≡◌, refl, ap, ◌∙◌}
use mathlib.Core.Bool.{false}
use mathlib.Core.List.{List}
use Prim.Native.Nat.{ℕ, ◌+◌, ◌-◌, ◌*◌, ◌≤◌, ◌<◌}
use native.Mathlib.Omega.{arith}
use Rattle.bits.specs.Search.{First, found, none}
use Rattle.bits.proofs.First.{first_found, first_missing, missing_first}
use Rattle.bits.proofs.Left.{Left, left_past, left-found}
use Rattle.bits.proofs.Tests.{clash}
use Rattle.formats.specs.declared.format.Format.{Format}
use Rattle.formats.specs.Numbers.{numbers_of}
use Rattle.refusals.specs.Refused.{pair_count}
use Rattle.telegrams.specs.Telegram.{shaped_data}
use Rattle.encoder.specs.Encoding.{passes, first_pair}
use Rattle.quick_encoder.specs.PairFrom.{pair_from, completes, shaping_from, shaping_at}
use Rattle.quick_encoder.proofs.Completing.{pair_completes}
use Rattle.std.specs.Prelude.{Some, None}

-- ---- the search for an esb

module _ (format : Format) (d : List ℕ) (B : ℕ) where
  -- none is tried yet
  pub shaping_all : (esb : ℕ) → esb ≤ 1024 → Left (completes format d B) (shaping_from format d B esb) 1024 esb
  unfolding shaping_from
  shaping_all esb h = record { within = h; rest = refl }

  -- no esb completes it
  pub shaping-none : (esb : ℕ) → esb ≤ 1024 → ((e : ℕ) → e < 1024 → completes format d B e ≡ false) → shaping_from format d B esb ≡ none
  unfolding shaping_from
  shaping-none esb h fail = missing_first (completes format d B) esb (1024 - esb) (λ e from below. fail e (omega arith))

-- the answer, as the search gives it
pub shaping_at_lem : (first : First) (esb : ℕ) → shaping_at first ≡ Some esb → first ≡ found esb
shaping_at_lem (found e) esb h = cc
shaping_at_lem none esb h = clash cc

pub shaping_nothing : (first : First) → shaping_at first ≡ None → first ≡ none
shaping_nothing (found e) h = clash cc
shaping_nothing none h = refl

-- ---- the search for a pair

-- from place p on; from the first place on it is the first pair of all
pub pairs_all : (format : Format) (u : List ℕ) (p : ℕ) → p ≤ pair_count → Left (passes format u) (pair_from format u p) pair_count p
unfolding pair_from
pairs_all format u p h = record { within = h; rest = refl }

pub from_the_first : (format : Format) (u : List ℕ) → pair_from format u 0 ≡ first_pair format u
unfolding pair_from first_pair
from_the_first format u = refl

module _ (format : Format) (u : List ℕ) {answer : First} {B esb : ℕ} (small : B < 4096) (below : esb < 1024)
    (left : Left (passes format u) answer pair_count (1024 * B + esb)) where
  -- the pairs of B up to the given one are not proper
  before : (e : ℕ) → esb ≤ e → e ≤ 1024 → ((j : ℕ) → esb ≤ j → j < e → completes format (shaped_data (numbers_of format) u B) B j ≡ false)
      → Left (passes format u) answer pair_count (1024 * B + e)
  before e from within fail =
      left_past left (1024 * B + e) (omega arith) (omega arith) λ p after here.
      let place : p ≡ 1024 * B + (p - 1024 * B) = omega arith in
      ap (passes format u) place ∙ pair_completes format u B (p - 1024 * B) (omega arith) ∙ fail (p - 1024 * B) (omega arith) (omega arith)

  -- an esb is found: the pair is the answer
  pub pair_of_lem : (e : ℕ) → shaping_from format (shaped_data (numbers_of format) u B) B esb ≡ found e → (e < 1024) × (answer ≡ found (1024 * B + e))
  unfolding shaping_from
  pair_of_lem e h =
      let d = shaped_data (numbers_of format) u B in
      let f = first_found (completes format d B) esb (1024 - esb) e h in
      let inside : e < 1024 = omega (arith, f.below) in
      (inside, left-found (before e f.from (omega arith) f.earlier) (omega arith) (pair_completes format u B e inside ∙ f.passed))

  -- none is: the next B is next
  pub next-scrambling : shaping_from format (shaped_data (numbers_of format) u B) B esb ≡ none → Left (passes format u) answer pair_count (1024 * (B + 1) + 0)
  unfolding shaping_from
  next-scrambling h =
      let d = shaped_data (numbers_of format) u B in
      let missing = first_missing (completes format d B) esb (1024 - esb) h in
      let place : 1024 * B + 1024 ≡ 1024 * (B + 1) + 0 = omega arith in
      rw place at (before 1024 (omega arith) (omega arith) (λ j from inside. missing j from (omega arith)))
