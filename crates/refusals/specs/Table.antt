-- A call's refusals (document 01, "When the bench says no"): a table in the order of the tests, each row a refusal and whether it applies.
-- Assumes nothing.
use Rattle.std.specs.Prelude.{ℕ, ◌≤◌, ◌≡◌, Bool, true, false, cond, ◌&&◌, List, [], ◌∷◌, ◌⊎◌, ◌↔◌, T, ltb}
use Rattle.refusals.specs.Outcome.{Outcome, outcome}

pub record Row (R : Type 0) : Type 0 where
  pub refusal : R
  pub applies : Bool

infix 80 ◌when◌
abbrev pub ◌when◌ : {R : Type 0} → R → Bool → Row R
refusal when applies = record { refusal = refusal; applies = applies }

-- ---- what a call answers by its table

pub data Verdict (R : Type 0) : Type 0 where
  refused : R → Verdict R
  accepted : Verdict R

-- the first refusal that applies
unfoldable pub verdict : {R : Type 0} → List (Row R) → Verdict R
verdict [] = accepted
verdict (row ∷ rows) = cond row.applies (refused row.refusal) (verdict rows)

abbrev pub accepts : {R : Type 0} → Verdict R → Bool
accepts (refused r) = false
accepts accepted = true

-- the answer with that refusal; where none applies, the answer that accepts
abbrev pub answer_by : {R A : Type 0} → (R → A) → A → Verdict R → A
answer_by refuse accept (refused r) = refuse r
answer_by refuse accept accepted = accept

-- the same of a call that writes a buffer: a refusal keeps every byte of the output
abbrev pub outcome_by : {R A : Type 0} → (R → A) → List ℕ → Outcome A → Verdict R → Outcome A
outcome_by {R} refuse out accept v = answer_by (λ (r : R). outcome (refuse r) out) accept v

-- ---- what that means

-- a row has this refusal, and it applies
abbrev pub RowApplies : {R : Type 0} → Row R → R → Type 0
RowApplies row r = (row.refusal ≡ r) × T row.applies

-- some row has this refusal, and it applies
unfoldable pub Applies : {R : Type 0} → List (Row R) → R → Type 0
Applies [] r = ⊥
Applies (row ∷ rows) r = RowApplies row r ⊎ Applies rows r

-- so it is, and no row before that one applies
unfoldable pub FirstApplies : {R : Type 0} → List (Row R) → R → Type 0
FirstApplies [] r = ⊥
FirstApplies (row ∷ rows) r = RowApplies row r ⊎ ((T row.applies → ⊥) × FirstApplies rows r)

-- "The lowest number that applies is given": it applies, and no refusal with a lower number does
pub record Lowest {R : Type 0} (number : R → ℕ) (rows : List (Row R)) (r : R) : Type 0 where
  pub applies : Applies rows r
  pub lowest : (q : R) → Applies rows q → number r ≤ number q

-- a call's answer goes by its table: it is a refusal exactly where that is the lowest that applies
abbrev pub RefusesBy : {R A : Type 0} → (R → ℕ) → (R → A) → List (Row R) → A → Type 0
RefusesBy {R} number refuse rows answer = (r : R) → (answer ≡ refuse r) ↔ Lowest number rows r

-- where the order of the tests is not that of the numbers: it is a refusal exactly where that is the first that applies
abbrev pub RefusesInOrder : {R A : Type 0} → (R → A) → List (Row R) → A → Type 0
RefusesInOrder {R} refuse rows answer = (r : R) → (answer ≡ refuse r) ↔ FirstApplies rows r

-- the numbers of the rows rise, from above k on
unfoldable pub rises_above : {R : Type 0} → (R → ℕ) → ℕ → List (Row R) → Bool
rises_above number k [] = true
rises_above number k (row ∷ rows) = ltb k (number row.refusal) && rises_above number (number row.refusal) rows
