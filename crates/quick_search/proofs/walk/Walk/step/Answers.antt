-- `quick_search::walk::Walk::step` meets its contract: the window does not fit, a pair differs, a refused run goes on, or what `read_bits` answers.
-- Assumes nothing.
use mathlib.Core.Path.{◌≡◌, refl, sym, ap, subst, subst⁻¹, ◌∙◌}
use mathlib.Core.List.{List}
use Prim.Native.Nat.{ℕ, ◌+◌, ◌≤◌}
use native.Mathlib.Omega.{arith}
use lib.Dec.{T}
use lib.ListN.{length}
use Rattle.bits.specs.Bits.{all_bits}
use Rattle.formats.specs.declared.format.Format.{Format}
use Rattle.formats.specs.Numbers.{numbers_of, window_bits}
use Rattle.refusals.specs.Outcome.{outcome}
use Rattle.reader.specs.declared.Asked.TheVariants.{Proper}
use Rattle.reader.specs.Reads.{read_as}
use Rattle.reader.proofs.Laws.{answered_refused}
use Rattle.captures.specs.Captures.{window_at, accepts_as}
use Rattle.captures.proofs.Places.{window_some, window-length, window_bits_lem}
use Rattle.quick_search.specs.Pairs.{PairsAgree, AgreedFrom}
use Rattle.quick_search.specs.Stepped.{GoesOn}
use Rattle.quick_search.proofs.Passing.{none_empty, none_to_agreed, run_goes_on, goes_past}
use Rattle.quick_search.proofs.walk.Walk.step.Goals as goal
use Rattle.std.specs.Prelude.{Result}
use Rattle.reader.specs.declared.Reading.{Reading}
use Rattle.refusals.specs.declared.Refusal.{Refusal}

module _ (format : Format) (s : List ℕ) (p : ℕ) where
  -- w is the window there, and not empty: it fits
  fits : (w : List ℕ) → w ≡ window_at format s p → (length w ≡ 0 → ⊥) → p + window_bits (numbers_of format) ≤ length s
  fits w is some = window_some format s p (λ e. some (ap length is ∙ e))

  -- the pairs of its ends, over the format's numbers
  agreed : (n r a : ℕ) → n ≡ (numbers_of format).n → r ≡ (numbers_of format).r → AgreedFrom n s p (p + r) a
      → AgreedFrom (numbers_of format).n s p (p + (numbers_of format).r) a
  agreed n r a n_is r_is h =
      subst (λ (r : ℕ). AgreedFrom (numbers_of format).n s p (p + r) a) r_is (subst (λ (n : ℕ). AgreedFrom n s p (p + r) a) n_is h)

  -- all of them agree
  whole : (a : ℕ) → a ≤ p → AgreedFrom (numbers_of format).n s p (p + (numbers_of format).r) a
      → PairsAgree (numbers_of format).n s p (p + (numbers_of format).r)
  whole a before h j from below = h.agree j (omega arith) below

pub returns-then-bits-eq0 : goal.returns-then-bits-eq0
returns-then-bits-eq0 c =
    let a = c.args in
    rw (c.at.ensures.place, c.at.ensures.refused)
    (c.requires.place_in_bounds, none_empty a.format a.capture.now a.self.now.place _ (ap length (sym c.window_at-bits.ensures) ∙ c.if-bits-eq0.true), tt, refl)

pub agreed_from-agreed-requires-clause-n_in_bounds : goal.agreed_from-agreed-requires-clause-n_in_bounds
agreed_from-agreed-requires-clause-n_in_bounds c =
    let a = c.args in
    omega (arith, fits a.format a.capture.now a.self.now.place _ c.window_at-bits.ensures c.if-bits-eq0.false)

pub returns-then-place-agreed : goal.returns-then-place-agreed
returns-then-place-agreed c =
    let a = c.args in
    let h = agreed a.format a.capture.now a.self.now.place _ _ _ c.telegram_bits-n.ensures c.extra_bits.ensures c.agreed_from-agreed.ensures in
    rw (c.at-then-place-agreed.ensures.place, c.at-then-place-agreed.ensures.refused)
    (c.if-place-agreed.true, none_to_agreed a.format a.capture.now a.self.now.place _ h, tt, refl)

-- the refused run goes on
pub returns-else-not-self : goal.returns-else-not-self
returns-else-not-self c =
    let a = c.args in
    let p = a.self.now.place in
    let h = agreed a.format a.capture.now p _ _ _ c.telegram_bits-n.ensures c.extra_bits.ensures c.agreed_from-agreed.ensures in
    let all = whole a.format a.capture.now p _ c.if-place-agreed.false h in
    let run = subst (GoesOn a.format a.capture.now p) c.if-not-self.false c.requires.goes_on in
    let (on, none, goes) =
    goes_past a.format a.capture.now p c.extra_bits.result c.extra_bits.ensures all
    (run_goes_on a.format a.capture.now p run (fits a.format a.capture.now p _ c.window_at-bits.ensures c.if-bits-eq0.false) all) in
    (on, none, goes, refl)

pub invariant_of-window : goal.invariant_of-window
invariant_of-window c =
    let a = c.args in
    let here = fits a.format a.capture.now a.self.now.place _ c.window_at-bits.ensures c.if-bits-eq0.false in record {
      are_bits = subst⁻¹ (λ (w : List ℕ). T (all_bits w)) c.window_at-bits.ensures (window_bits_lem a.format a.capture.now a.self.now.place c.requires.are_bits here);
      size = ap length c.window_at-bits.ensures ∙ window-length a.format a.capture.now a.self.now.place here;
    }

-- what is read of the window there
answered : (format : Format) (s : List ℕ) (p : ℕ) (w out after : List ℕ) (answer case : Result Reading Refusal) → w ≡ window_at format s p
    → read_as Proper format w out ≡ outcome answer after → answer ≡ case → read_as Proper format (window_at format s p) out ≡ outcome case after
answered format s p w out after answer case is read e =
    ap (λ (v : List ℕ). read_as Proper format v out) (sym is) ∙ read ∙ ap (λ (x : Result Reading Refusal). outcome x after) e

pub returns-in-Ok : goal.returns-in-Ok
returns-in-Ok c =
    (refl, answered c.args.format c.args.capture.now c.args.self.now.place _ _ _ _ _ c.window_at-bits.ensures c.read_bits.ensures c.in-Ok.is)

pub returns-in_default : goal.returns-in_default
unfolding accepts_as
returns-in_default c =
    let a = c.args in
    let p = a.self.now.place in
    let h = agreed a.format a.capture.now p _ _ _ c.telegram_bits-n.ensures c.extra_bits.ensures c.agreed_from-agreed.ensures in
    let (kept, unread) =
    answered_refused Proper a.format (window_at a.format a.capture.now p) a.output.now c.in_default.field-0 _
    (answered a.format a.capture.now p _ _ _ _ _ c.window_at-bits.ensures c.read_bits.ensures c.in_default.is) in
    let (on, none, goes) =
    goes_past a.format a.capture.now p c.extra_bits.result c.extra_bits.ensures (whole a.format a.capture.now p _ c.if-place-agreed.false h)
    (unread c.requires.format_in_bounds) in
    (on, none, goes, kept)
