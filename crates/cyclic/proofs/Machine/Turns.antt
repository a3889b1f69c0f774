-- The search for the turn: the remainder of each turn from that of the one before. Assumes nothing.
use Rattle.std.proofs.Common.{◌≡◌, ℕ, ◌+◌, ◌^◌, ◌<◌, ◌≤◌, true, false, List, sym, refl, ap, ◌∙◌, ap₂, subst₂, mod-eq_of_lt, arith, lit<}
use Rattle.bits.specs.Bits.{same, number_from, number_of, bits_of}
use Rattle.bits.specs.Search.{first_of}
use Rattle.bits.proofs.Equal.{same_equal, equal_same}
use Rattle.bits.proofs.Left.{Left, left_all, left_fewer, left-found, left-none}
use Rattle.bits.proofs.Tests.{is_false}
use Rattle.bits.proofs.Numbers.{number_of_below, number_of-bits_of, bits_of-number_of}
use Rattle.formats.specs.declared.format.Format.{Format}
use Rattle.formats.specs.declared.format.Format.TheVariants.{Long, Short}
use Rattle.formats.specs.Numbers.{numbers_of, f_of, g_of}
use Rattle.formats.specs.Polynomial.{polynomial, coefficients_below, coefficient_of, sum}
use Rattle.cyclic.specs.Check.{turn_remainder, leaves, turn_from, turn_of}
use Rattle.cyclic.specs.Machine.{step_v}
use Rattle.cyclic.specs.Remainder.{remainder, remainder_from, step}
use Rattle.cyclic.proofs.Formats.{facts_of}
use Rattle.cyclic.proofs.Laws.{bits_turn, length-turn, turn-next}
use Rattle.cyclic.proofs.Machine.Bridge.{step_number}
use Rattle.cyclic.proofs.Machine.Divisors.{divisor_rest, divisor_degree}
use Rattle.std.specs.Prelude.{Some, None}

-- the remainder of turn 0
pub unturned-long : 771 ≡ number_of (turn_remainder (numbers_of Long) 0)
unfolding turn_remainder remainder remainder_from step sum f_of g_of polynomial coefficients_below coefficient_of number_from
unturned-long = refl

pub unturned-short : 822 ≡ number_of (turn_remainder (numbers_of Short) 0)
unfolding turn_remainder remainder remainder_from step sum f_of g_of polynomial coefficients_below coefficient_of number_from
unturned-short = refl

-- The remainder of turn s, as a list and as the number w.
module _ (x : Format) (s : ℕ) {w : ℕ} (e : w ≡ number_of (turn_remainder (numbers_of x) s)) where
  pub turn_list : bits_of 10 w ≡ turn_remainder (numbers_of x) s
  turn_list =
      let F = numbers_of x in
      let A = facts_of x in
      ap (bits_of 10) e ∙ bits_of-number_of 10 (turn_remainder F s) (bits_turn F A s) (length-turn F A s)

  pub turn_fits : w < 2 ^ 10
  turn_fits =
      subst₂ (λ (y k : ℕ). y < 2 ^ k) (sym e) (length-turn (numbers_of x) (facts_of x) s)
      (number_of_below (turn_remainder (numbers_of x) s) (bits_turn (numbers_of x) (facts_of x) s))

  turn_step : {d : ℕ} → d ≡ number_of (f_of (numbers_of x)) → step_v d (2 ^ 10) w 0 ≡ number_of (turn_remainder (numbers_of x) (s + 1))
  turn_step {d} h =
      step_number 10 d w (divisor_degree (facts_of x).f_degree h) turn_fits 0 (lit< tt)
      ∙ ap number_of
      (ap₂ (λ (t r : List ℕ). step t r 0) (ap (bits_of 10) h ∙ divisor_rest (facts_of x).f_degree) turn_list ∙ sym (turn-next (numbers_of x) s))

  -- the test of turn s, where the number that is looked for is w, and where it is not
  hit : {r : ℕ} → w ≡ r → same (turn_remainder (numbers_of x) s) (bits_of 10 r) ≡ true
  hit {r} h =
      ap (λ (u : List ℕ). same u (bits_of 10 r)) (sym turn_list ∙ ap (bits_of 10) h) ∙ equal_same (bits_of 10 r) (bits_of 10 r) refl

  missed : {r : ℕ} → r < 2 ^ 10 → (w ≡ r → ⊥) → same (turn_remainder (numbers_of x) s) (bits_of 10 r) ≡ false
  missed {r} fits other =
      is_false (same (turn_remainder (numbers_of x) s) (bits_of 10 r))
      (λ t. other (e ∙ ap number_of (same_equal (turn_remainder (numbers_of x) s) (bits_of 10 r) t) ∙ number_of-bits_of 10 r ∙ mod-eq_of_lt fits))

-- The loop's numbers are those of the format x: f, the telegram's bits, and the remainder of turn 0.
pub record Serves (x : Format) (divisor n first : ℕ) : Type 0 where
  pub f : divisor ≡ number_of (f_of (numbers_of x))
  pub telegram : n ≡ (numbers_of x).n
  pub unturned : first ≡ number_of (turn_remainder (numbers_of x) 0)

-- The search for the turn with the remainder r has come to turn s, whose remainder is w.
pub record Turning (x : Format) (r w s : ℕ) : Type 0 where
  pub register : w ≡ number_of (turn_remainder (numbers_of x) s)
  pub search : Left (leaves (numbers_of x) (bits_of 10 r)) (first_of (leaves (numbers_of x) (bits_of 10 r)) 0 (numbers_of x).n) (numbers_of x).n s

-- The search begins, goes past turn s, ends at it, and ends with none.
module _ {x : Format} {divisor n first : ℕ} (k : Serves x divisor n first) where
  pub turning_start : (r : ℕ) → Turning x r first 0
  turning_start r = record { register = k.unturned; search = left_all (leaves (numbers_of x) (bits_of 10 r)) (numbers_of x).n }

  pub turning_more : {r w s w' : ℕ} → s < n → r < 1024 → (w ≡ r → ⊥) → w' ≡ step_v divisor 1024 w 0 → Turning x r w s → Turning x r w' (s + 1)
  turning_more {s} h fits other e t =
      record {
        register = e ∙ turn_step x s t.register k.f;
        search = left_fewer t.search (omega (arith, k.telegram)) (missed x s t.register fits other);
      }

  pub turning_found : {r w s : ℕ} → s < n → w ≡ r → Turning x r w s → Some s ≡ turn_of (numbers_of x) (bits_of 10 r)
  unfolding turn_of
  turning_found {s} h e t = sym (ap turn_from (left-found t.search (omega (arith, k.telegram)) (hit x s t.register e)))

  pub turning_over : {r w s : ℕ} → n ≤ s → Turning x r w s → None ≡ turn_of (numbers_of x) (bits_of 10 r)
  unfolding turn_of
  turning_over h t = sym (ap turn_from (left-none t.search (omega (arith, k.telegram))))
