-- The first pair of scrambling and extra shaping bits whose telegram is proper, in counting order (the request, demand 2).
-- Assumes nothing.
use Rattle.std.specs.Prelude.{ℕ, ◌+◌, ◌*◌, ◌≤◌, ◌<◌, List, T}
use Rattle.formats.specs.declared.format.Format.{Format}
use Rattle.formats.specs.Numbers.{numbers_of}
use Rattle.telegrams.specs.Telegram.{telegram_of}
use Rattle.conditions.specs.Conditions.{proper}

-- the pair's telegram is proper
abbrev pub ProperPair : Format → List ℕ → ℕ → ℕ → Type 0
ProperPair format u B esb = T (proper format (telegram_of (numbers_of format) u B esb))

-- and that of no pair before it, B counted first
pub record FirstProper (format : Format) (u : List ℕ) (B esb : ℕ) : Type 0 where
  pub scrambling : B < 4096
  pub shaping : esb < 1024
  pub proper_pair : ProperPair format u B esb
  pub none_before : (C e : ℕ) → e < 1024 → 1024 * C + e < 1024 * B + esb → ProperPair format u C e → ⊥

-- no pair's telegram is proper
abbrev pub NoneProper : Format → List ℕ → Type 0
NoneProper format u = (B esb : ℕ) → B < 4096 → esb < 1024 → ProperPair format u B esb → ⊥

-- ---- from a place on: the pair B, esb stands at place 1024 * B + esb (document 02, No. 9)

-- the pair B, esb is the first at place s or after it whose telegram is proper
pub record ProperFrom (format : Format) (u : List ℕ) (s B esb : ℕ) : Type 0 where
  pub scrambling : B < 4096
  pub shaping : esb < 1024
  pub from : s ≤ 1024 * B + esb
  pub proper_pair : ProperPair format u B esb
  pub none_between : (C e : ℕ) → e < 1024 → s ≤ 1024 * C + e → 1024 * C + e < 1024 * B + esb → ProperPair format u C e → ⊥

-- no pair at place s or after it has a proper telegram
abbrev pub NoneProperFrom : Format → List ℕ → ℕ → Type 0
NoneProperFrom format u s = (B esb : ℕ) → B < 4096 → esb < 1024 → s ≤ 1024 * B + esb → ProperPair format u B esb → ⊥
