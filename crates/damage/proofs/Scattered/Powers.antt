-- The space whose shift is j shifts of another: there a polynomial acts as its value at x^j does in the other. Assumes nothing.
use Prim.Native.Nat.{ℕ, zero, suc, ◌+◌, ◌*◌, ◌%◌}
use mathlib.Core.Path.{◌≡◌, refl, sym, ap, ◌∙◌}
use mathlib.Core.List.{List, [], ◌∷◌, ◌++◌}
use native.Mathlib.Nat.{zero-mul, suc-mul}
use native.Mathlib.Omega.{arith}
use Rattle.bits.proofs.AllBits.{all_bits-nil, all_bits-cons, all_bits_head, all_bits-tail, all_bits-append}
use Rattle.cyclic.proofs.Lists.{Bits, zeros, bits_zeros}
use Rattle.cyclic.proofs.Space.{Space, run, times, chosen, pick, pow, pow-add, pow-sum, run-append, zeros-back}

-- the space whose shift is j shifts of M
abbrev pub Power : Space → ℕ → Space
Power M j =
    record {
      Car = M.Car;
      nil = M.nil;
      add = M.add;
      X = pow M j;
      assoc = M.assoc;
      comm = M.comm;
      unit = M.unit;
      self = M.self;
      X_add = pow-sum M j;
    }

-- k of its shifts
pub power_pow : (M : Space) (j k : ℕ) (s : M.Car) → pow (Power M j) k s ≡ pow M (k * j) s
unfolding pow
power_pow M j zero s = ap (λ (i : ℕ). pow M i s) (sym (zero-mul j))
power_pow M j (suc k) s =
    let more : j + k * j ≡ suc k * j = omega (arith, suc-mul k j) in
    ap (pow M j) (power_pow M j k s) ∙ sym (pow-add M j (k * j) s) ∙ ap (λ (i : ℕ). pow M i s) more

-- v at x^(i+1): i zeros before each coefficient
unfoldable pub spread : ℕ → List ℕ → List ℕ
spread i [] = []
spread i (b ∷ v) = zeros i ++ (b ∷ spread i v)

-- it is made of bits where v is
pub bits_spread : (i : ℕ) (v : List ℕ) → Bits v → Bits (spread i v)
unfolding spread
bits_spread i [] h = all_bits-nil
bits_spread i (b ∷ v) h =
    all_bits-append (zeros i) (b ∷ spread i v) (bits_zeros i)
    (all_bits-cons b (spread i v) (all_bits_head b v h) (bits_spread i v (all_bits-tail b v h)))

-- the same is picked in both spaces
chosen_power : (M : Space) (j k : ℕ) (e : M.Car) → chosen (Power M j) k e ≡ chosen M k e
chosen_power M j zero e = refl
chosen_power M j (suc k) e = refl

-- it acts as v does where one shift is i + 1 shifts
power_run : (M : Space) (i : ℕ) (e s : M.Car) (v : List ℕ) → run (Power M (suc i)) e s v ≡ run M e s (spread i v)
unfolding run spread pow
power_run M i e s [] = refl
power_run M i e s (b ∷ v) =
    ap (λ (x : M.Car). run (Power M (suc i)) e (M.add (M.X (pow M i s)) x) v) (chosen_power M (suc i) (b % 2) e)
    ∙ power_run M i e (M.add (M.X (pow M i s)) (pick M b e)) v
    ∙ sym (run-append M e s (zeros i) (b ∷ spread i v)
    ∙ ap (λ (r : M.Car). run M e (M.add (M.X r) (pick M b e)) (spread i v)) (zeros-back M e s i))

pub power_times : (M : Space) (i : ℕ) (v : List ℕ) (e : M.Car) → times (Power M (suc i)) v e ≡ times M (spread i v) e
power_times M i v e = power_run M i e M.nil v
