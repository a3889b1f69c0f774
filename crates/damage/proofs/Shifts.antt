-- Shifts of a space: what some of them fix, and that where n of them do nothing, none makes anything but nil to nil. Assumes nothing.
use Prim.Native.Nat.{ℕ, zero, suc, ◌-◌, ◌*◌, ◌/◌, ◌%◌, ◌<◌}
use mathlib.Core.Path.{◌≡◌, sym, ap, ◌∙◌}
use native.Mathlib.Nat.{mul-suc, mul-zero, mod-add-div}
use native.Mathlib.Omega.{arith}
use Rattle.cyclic.proofs.Space.{Space, pow, pow_X, pow-nil, pow-add}

module _ (M : Space) where
  open M use {Car, nil, X}

  -- what k shifts fix, m times k shifts fix
  pub fixed_times : (k m : ℕ) (s : Car) → pow M k s ≡ s → pow M (k * m) s ≡ s
  unfolding pow
  fixed_times k zero s e = ap (λ (i : ℕ). pow M i s) (mul-zero k)
  fixed_times k (suc m) s e =
      ap (λ (i : ℕ). pow M i s) (mul-suc k m) ∙ pow-add M (k * m) k s ∙ ap (pow M (k * m)) e ∙ fixed_times k m s e

  module _ (n : ℕ) (round : (s : Car) → pow M n s ≡ s) where
    -- where n shifts do nothing, i do what i modulo n do
    pub shifts_mod : (i : ℕ) (s : Car) → pow M (i % n) s ≡ pow M i s
    shifts_mod i s =
        ap (pow M (i % n)) (sym (fixed_times n (i / n) s (round s))) ∙ sym (pow-add M (i % n) (n * (i / n)) s)
        ∙ ap (λ (j : ℕ). pow M j s) (mod-add-div i n)

    -- so one shift makes only nil to nil
    shift_nil : 0 < n → (s : Car) → X s ≡ nil → s ≡ nil
    unfolding pow
    shift_nil some s e =
        let all : n ≡ suc (n - 1) = omega arith in
        sym (round s) ∙ ap (λ (k : ℕ). pow M k s) all ∙ sym (pow_X M (n - 1) s) ∙ ap (pow M (n - 1)) e ∙ pow-nil M (n - 1)

    -- and so do i shifts
    pub shifts_nil : 0 < n → (i : ℕ) (s : Car) → pow M i s ≡ nil → s ≡ nil
    unfolding pow
    shifts_nil some zero s e = e
    shifts_nil some (suc i) s e = shifts_nil some i s (shift_nil some (pow M i s) e)
