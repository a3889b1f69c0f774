-- A call answers by its table (document 01, "When the bench says no"): a refusal is given exactly where it applies and none before it does,
-- which is the lowest that applies where the numbers rise; accepted is what no refusal applies to. Assumes nothing.
use Prim.Native.Nat.{ℕ, ◌≤◌, ◌<◌}
use mathlib.Core.Path.{◌≡◌, refl, sym, ap, ◌∙◌}
use mathlib.Core.Bool.{Bool, true, false, not, cond}
use mathlib.Core.List.{List, [], ◌∷◌, ◌++◌}
use mathlib.Core.Logic.{◌↔◌, inl, inr}
use native.Mathlib.Omega.{arith}
use lib.Dec.{T, eqb, ltb, ltb→lt, T_not, eqb_refl}
use Rattle.bits.proofs.And.{and_left, and_right}
use Rattle.bits.proofs.Tests.{clash, is_false}
use Rattle.refusals.specs.Outcome.{Outcome}
use Rattle.refusals.specs.Table.{Row, ◌when◌, Verdict, refused, accepted, verdict, accepts, answer_by, outcome_by, RowApplies, Applies, FirstApplies, Lowest, RefusesBy, RefusesInOrder, rises_above}

module _ {R : Type 0} where
  -- ---- a verdict is one of the two

  abbrev is_refused : Verdict R → ℕ
  is_refused (refused r) = 1
  is_refused accepted = 0

  abbrev refusal_or : R → Verdict R → R
  refusal_or q (refused r) = r
  refusal_or q accepted = q

  accepted_refused : {A : Type 0} (r : R) → accepted ≡ refused r → A
  accepted_refused r e = clash (ap is_refused e)

  refused_one : (q r : R) → refused q ≡ refused r → q ≡ r
  refused_one q r e = ap (refusal_or q) e

  pub accepts_only : (v : Verdict R) → T (accepts v) → v ≡ accepted
  accepts_only accepted h = refl
  accepts_only (refused r) h = absurd h

  -- ---- the walk through a table: past a test that holds, and refused at one that fails

  pub record Decides (rows : List (Row R)) (v : Verdict R) : Type 0 where
    pub verdict_is : verdict rows ≡ v

  pub passed : {r : R} {t : Bool} {rows : List (Row R)} {v : Verdict R} → t ≡ true → Decides rows v → Decides ((r when not t) ∷ rows) v
  unfolding verdict
  passed e d = record { verdict_is = rw e d.verdict_is }

  pub failed : {r : R} {t : Bool} {rows : List (Row R)} → t ≡ false → Decides ((r when not t) ∷ rows) (refused r)
  unfolding verdict
  failed e = record { verdict_is = rw e }

  pub all_passed : Decides [] accepted
  unfolding verdict
  all_passed = record { verdict_is = refl }

  -- ---- the first that applies

  first_given : (rows : List (Row R)) (r : R) → verdict rows ≡ refused r → FirstApplies rows r
  unfolding verdict FirstApplies
  first_given [] r e = accepted_refused r e
  first_given (row ∷ rows) r e = go row.applies refl e (first_given rows r)
    where
      go : (t : Bool) → row.applies ≡ t → cond t (refused row.refusal) (verdict rows) ≡ refused r
          → (verdict rows ≡ refused r → FirstApplies rows r) → FirstApplies (row ∷ rows) r
      go true f e next = inl (refused_one row.refusal r e, rw f tt)
      go false f e next = inr (rw f (λ x. x), next e)

  given_first : (rows : List (Row R)) (r : R) → FirstApplies rows r → verdict rows ≡ refused r
  unfolding verdict FirstApplies
  given_first [] r f = absurd f
  given_first (row ∷ rows) r f = go row.applies refl f (given_first rows r)
    where
      go : (t : Bool) → row.applies ≡ t → FirstApplies (row ∷ rows) r → (FirstApplies rows r → verdict rows ≡ refused r)
          → cond t (refused row.refusal) (verdict rows) ≡ refused r
      go true e (inl (is, a)) next = ap refused is
      go true e (inr (fails, f)) next = absurd (fails (rw e tt))
      go false e (inl (is, a)) next = absurd (rw e at a)
      go false e (inr (fails, f)) next = next f

  -- a refusal is given exactly where it applies and none before it in the table does
  pub given : (rows : List (Row R)) (r : R) → (verdict rows ≡ refused r) ↔ FirstApplies rows r
  given rows r = (first_given rows r, given_first rows r)

  -- ---- none applies

  pub none_applies : (rows : List (Row R)) → verdict rows ≡ accepted → (r : R) → Applies rows r → ⊥
  unfolding verdict Applies
  none_applies [] e r a = a
  none_applies (row ∷ rows) e r a = go row.applies refl e a (λ f. none_applies rows f r)
    where
      go : (t : Bool) → row.applies ≡ t → cond t (refused row.refusal) (verdict rows) ≡ accepted → Applies (row ∷ rows) r
          → (verdict rows ≡ accepted → Applies rows r → ⊥) → ⊥
      go true f e a next = accepted_refused row.refusal (sym e)
      go false f e (inl (is, a)) next = rw f at a
      go false f e (inr a) next = next e a

  -- no row applies
  unfoldable pub NoRow : List (Row R) → Type 0
  NoRow [] = Unit {0}
  NoRow (row ∷ rows) = (row.applies ≡ false) × NoRow rows

  pub accepted_no_row : (rows : List (Row R)) → verdict rows ≡ accepted → NoRow rows
  unfolding verdict NoRow
  accepted_no_row [] e = tt
  accepted_no_row (row ∷ rows) e = go row.applies refl e (accepted_no_row rows)
    where
      go : (t : Bool) → row.applies ≡ t → cond t (refused row.refusal) (verdict rows) ≡ accepted → (verdict rows ≡ accepted → NoRow rows)
          → (row.applies ≡ false) × NoRow rows
      go true f e next = accepted_refused row.refusal (sym e)
      go false f e next = (f, next e)

  pub no_row_accepted : (rows : List (Row R)) → NoRow rows → verdict rows ≡ accepted
  unfolding verdict NoRow
  no_row_accepted [] n = refl
  no_row_accepted (row ∷ rows) (e, n) = rw e (no_row_accepted rows n)

  -- ---- a table with more rows behind it: they decide where it accepts

  pub verdict_more : (rows more : List (Row R)) → verdict (rows ++ more) ≡ answer_by refused (verdict more) (verdict rows)
  unfolding verdict
  verdict_more [] more = refl
  verdict_more (row ∷ rows) more = go row.applies (verdict_more rows more)
    where
      go : (t : Bool) → verdict (rows ++ more) ≡ answer_by refused (verdict more) (verdict rows)
          → cond t (refused row.refusal) (verdict (rows ++ more)) ≡ answer_by refused (verdict more) (cond t (refused row.refusal) (verdict rows))
      go true next = refl
      go false next = next

  first_applies : (rows : List (Row R)) (r : R) → FirstApplies rows r → Applies rows r
  unfolding FirstApplies Applies
  first_applies [] r f = f
  first_applies (row ∷ rows) r (inl a) = inl a
  first_applies (row ∷ rows) r (inr (fails, f)) = inr (first_applies rows r f)

  -- the first that applies, for a walk row by row
  pub record FirstIs (rows : List (Row R)) (r : R) : Type 0 where
    pub applies : FirstApplies rows r

  pub refused_first : (rows : List (Row R)) (r : R) → verdict rows ≡ refused r → FirstIs rows r
  refused_first rows r e = record { applies = first_given rows r e }

  -- ---- the lowest number, where the numbers rise

  module _ (number : R → ℕ) where
    first : (k : ℕ) (row : Row R) (rows : List (Row R)) → T (rises_above number k (row ∷ rows)) → k < number row.refusal
    unfolding rises_above
    first k row rows h = ltb→lt k (number row.refusal) (and_left (ltb k (number row.refusal)) (rises_above number (number row.refusal) rows) h)

    later : (k : ℕ) (row : Row R) (rows : List (Row R)) → T (rises_above number k (row ∷ rows)) → T (rises_above number (number row.refusal) rows)
    unfolding rises_above
    later k row rows h = and_right (ltb k (number row.refusal)) (rises_above number (number row.refusal) rows) h

    -- every refusal that applies has a number above k
    above : (k : ℕ) (rows : List (Row R)) → T (rises_above number k rows) → (q : R) → Applies rows q → k < number q
    unfolding Applies
    above k [] h q a = absurd a
    above k (row ∷ rows) h q (inl (is, t)) = omega (arith, first k row rows h, ap number is)
    above k (row ∷ rows) h q (inr a) =
        omega (arith, first k row rows h, above (number row.refusal) rows (later k row rows h) q a)

    -- the first that applies has the lowest number
    first_lowest : (k : ℕ) (rows : List (Row R)) → T (rises_above number k rows) → (r : R) → FirstApplies rows r
        → (q : R) → Applies rows q → number r ≤ number q
    unfolding FirstApplies Applies
    first_lowest k [] h r f q a = absurd a
    first_lowest k (row ∷ rows) h r (inl (is, t)) q (inl (js, u)) = omega (arith, ap number is, ap number js)
    first_lowest k (row ∷ rows) h r (inl (is, t)) q (inr a) =
        omega (arith, ap number is, above (number row.refusal) rows (later k row rows h) q a)
    first_lowest k (row ∷ rows) h r (inr (fails, f)) q (inl (js, u)) = absurd (fails u)
    first_lowest k (row ∷ rows) h r (inr (fails, f)) q (inr a) = first_lowest (number row.refusal) rows (later k row rows h) r f q a

    -- no two rows have one number
    one_row : (k : ℕ) (rows : List (Row R)) → T (rises_above number k rows) → (q r : R) → Applies rows q → Applies rows r
        → number q ≡ number r → q ≡ r
    unfolding Applies
    one_row k [] h q r a b e = absurd a
    one_row k (row ∷ rows) h q r (inl (is, t)) (inl (js, u)) e = sym is ∙ js
    one_row k (row ∷ rows) h q r (inl (is, t)) (inr b) e =
        absurd (omega (arith, ap number is, above (number row.refusal) rows (later k row rows h) r b))
    one_row k (row ∷ rows) h q r (inr a) (inl (js, u)) e =
        absurd (omega (arith, ap number js, above (number row.refusal) rows (later k row rows h) q a))
    one_row k (row ∷ rows) h q r (inr a) (inr b) e = one_row (number row.refusal) rows (later k row rows h) q r a b e

    -- a refusal is given exactly where it is the lowest that applies
    pub lowest_given : (rows : List (Row R)) → T (rises_above number 0 rows) → (r : R) → (verdict rows ≡ refused r) ↔ Lowest number rows r
    lowest_given rows h r = (forth, λ l. back l (verdict rows) refl)
      where
        forth : verdict rows ≡ refused r → Lowest number rows r
        forth e =
            let f = first_given rows r e in
            record { applies = first_applies rows r f; lowest = first_lowest 0 rows h r f }

        back : Lowest number rows r → (v : Verdict R) → verdict rows ≡ v → v ≡ refused r
        back l accepted e = absurd (none_applies rows e r l.applies)
        back l (refused q) e =
            let f = first_given rows q e in
            let a = first_applies rows q f in
            let same : number q ≡ number r = omega (arith, l.lowest q a, first_lowest 0 rows h q f r l.applies) in
            ap refused (one_row 0 rows h q r a l.applies same)

    -- ---- the first that applies, row by row

    -- a row whose refusal has another number does not apply, and it is that of a later one
    pub later_row : {row : Row R} {rows : List (Row R)} {r : R} → T (not (eqb (number row.refusal) (number r)))
        → FirstIs (row ∷ rows) r → (row.applies ≡ false) × FirstIs rows r
    unfolding FirstApplies
    later_row {row} {rows} {r} other f = go f.applies
      where
        go : FirstApplies (row ∷ rows) r → (row.applies ≡ false) × FirstIs rows r
        go (inl (is, a)) = absurd (T_not (eqb (number row.refusal) (number r)) other (rw (ap number is) (eqb_refl (number r))))
        go (inr (fails, later)) = (is_false row.applies fails, record { applies = later })

    -- it is that of this row, where no later one has its number
    pub this_row : {row : Row R} {rows : List (Row R)} {r : R} → T (rises_above number (number r) rows)
        → FirstIs (row ∷ rows) r → RowApplies row r
    unfolding FirstApplies
    this_row {row} {rows} {r} rises f = go f.applies
      where
        go : FirstApplies (row ∷ rows) r → RowApplies row r
        go (inl here) = here
        go (inr (fails, later)) = absurd (omega (arith, above (number r) rows rises r (first_applies rows r later)))

-- ---- an answer that goes by a table

-- the answer of a call that writes a buffer
pub answer_by_lem : {R A : Type 0} (refuse : R → A) (out : List ℕ) (accept : Outcome A) (v : Verdict R)
    → (outcome_by refuse out accept v).answer ≡ answer_by refuse accept.answer v
answer_by_lem refuse out accept (refused r) = refl
answer_by_lem refuse out accept accepted = refl

-- what an answer says
module _ {R A : Type 0} (refuse : R → A) (said : A → Verdict R) (known : (r : R) → said (refuse r) ≡ refused r) where
  -- is the verdict
  pub answer_said : (accept : A) → said accept ≡ accepted → (v : Verdict R) → said (answer_by refuse accept v) ≡ v
  answer_said accept h (refused r) = known r
  answer_said accept h accepted = h

  -- a refusal keeps the output
  pub outcome-kept : (out : List ℕ) (accept : Outcome A) → said accept.answer ≡ accepted → (v : Verdict R) (r : R)
      → (outcome_by refuse out accept v).answer ≡ refuse r → (outcome_by refuse out accept v).output ≡ out
  outcome-kept out accept h (refused q) r e = refl
  outcome-kept out accept h accepted r e = accepted_refused r (sym h ∙ ap said e ∙ known r)

  -- it is a refusal exactly where the verdict is
  verdict_of : ((a : A) (r : R) → said a ≡ refused r → a ≡ refuse r) → (a : A) (v : Verdict R) → said a ≡ v → (r : R) → (a ≡ refuse r) ↔ (v ≡ refused r)
  verdict_of only a v e r = (λ f. sym e ∙ ap said f ∙ known r, λ g. only a r (e ∙ g))

  -- so exactly where that is the first that applies
  pub refuses_in_order : ((a : A) (r : R) → said a ≡ refused r → a ≡ refuse r) → (rows : List (Row R)) (a : A) → said a ≡ verdict rows
      → RefusesInOrder refuse rows a
  refuses_in_order only rows a e r =
      let is = verdict_of only a (verdict rows) e r in
      (λ f. (given rows r).0 (is.0 f), λ first. is.1 ((given rows r).1 first))

  -- which is the lowest that applies where the numbers rise
  pub refuses_by : ((a : A) (r : R) → said a ≡ refused r → a ≡ refuse r) → (number : R → ℕ) (rows : List (Row R)) → T (rises_above number 0 rows)
      → (a : A) → said a ≡ verdict rows → RefusesBy number refuse rows a
  refuses_by only number rows h a e r =
      let is = verdict_of only a (verdict rows) e r in
      (λ f. (lowest_given number rows h r).0 (is.0 f), λ l. is.1 ((lowest_given number rows h r).1 l))
