-- The first place from s on that passes is the first proper pair from there on, and the other way. Assumes nothing.
use mathlib.Core.Path.{◌≡◌, sym, ◌∙◌}
use mathlib.Core.Bool.{false}
use mathlib.Core.List.{List}
use Prim.Native.Nat.{ℕ, ◌+◌, ◌-◌, ◌*◌, ◌/◌, ◌%◌, ◌<◌}
use native.Mathlib.Omega.{arith}
use Rattle.bits.specs.Search.{found, none, first_of}
use Rattle.bits.proofs.First.{first_found, first_missing, found_first}
use Rattle.bits.proofs.Tests.{is_true, is_false, holds, fails}
use Rattle.formats.specs.declared.format.Format.{Format}
use Rattle.formats.specs.Numbers.{numbers_of}
use Rattle.refusals.specs.Refused.{pair_count}
use Rattle.telegrams.specs.Telegram.{telegram_of}
use Rattle.conditions.specs.Conditions.{proper}
use Rattle.encoder.specs.Encoding.{telegram_at, passes}
use Rattle.encoder.specs.FirstPair.{ProperPair, ProperFrom, NoneProperFrom}
use Rattle.encoder.proofs.Pairs.{pair_proper}

module _ (format : Format) (u : List ℕ) where
  -- a pair that does not pass is not proper
  not_passing : (B esb : ℕ) → esb < 1024 → passes format u (1024 * B + esb) ≡ false → ProperPair format u B esb → ⊥
  not_passing B esb h e = fails (proper format (telegram_of (numbers_of format) u B esb)) (sym (pair_proper B esb h format u) ∙ e)

  module _ (s : ℕ) where
    pub found_from : (p : ℕ) → first_of (passes format u) s (pair_count - s) ≡ found p → ProperFrom format u s (p / 1024) (p % 1024)
    unfolding passes telegram_at
    found_from p e =
        let f = first_found (passes format u) s (pair_count - s) p e in
        record {
          scrambling = omega (arith, f.below, f.from);
          shaping = omega arith;
          from = omega (arith, f.from);
          proper_pair = holds (passes format u p) f.passed;
          none_between = λ C e small from before. not_passing C e small (f.earlier (1024 * C + e) from (omega arith));
        }

    pub from_found : (B esb : ℕ) → ProperFrom format u s B esb → first_of (passes format u) s (pair_count - s) ≡ found (1024 * B + esb)
    unfolding passes telegram_at
    from_found B esb f =
        found_first (passes format u) s (pair_count - s) (1024 * B + esb)
        record {
          from = f.from;
          below = omega (arith, f.scrambling, f.shaping, f.from);
          passed = pair_proper B esb f.shaping format u ∙ is_true (proper format (telegram_of (numbers_of format) u B esb)) f.proper_pair;
          earlier = λ j from before.
              is_false (passes format u j) (f.none_between (j / 1024) (j % 1024) (omega arith) (omega arith) (omega arith));
        }

    pub missing_from : first_of (passes format u) s (pair_count - s) ≡ none → NoneProperFrom format u s
    missing_from e B esb small below from =
        not_passing B esb below (first_missing (passes format u) s (pair_count - s) e (1024 * B + esb) from (omega arith))
