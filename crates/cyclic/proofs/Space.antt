-- A space with a shift: what the polynomials over two elements act on. X is the shift, and a list of coefficients, the
-- highest power first, times an element e is the sum of the shifted e's whose coefficient is odd (Horner's fold).
-- Assumes nothing.
use Rattle.std.proofs.Common.{◌≡◌, ℕ, zero, suc, ◌+◌, ◌-◌, ◌%◌, ◌<◌, List, [], ◌∷◌, ◌++◌, length, replicate, sym, refl, ap, ◌∙◌, ap₂, mod-lt, suc-add, zero-add, arith, lit<}
use native.Mathlib.Nat.{suc_inj}
use Rattle.formats.specs.Polynomial.{sum}

-- the middle two of four change places
pub swap_of : {A : Type 0} (op : A → A → A) → ((a b c : A) → op (op a b) c ≡ op a (op b c)) → ((a b : A) → op a b ≡ op b a)
    → (a b c d : A) → op (op a b) (op c d) ≡ op (op a c) (op b d)
swap_of {A} op assoc comm a b c d =
    assoc a b (op c d) ∙ ap (op a) (sym (assoc b c d) ∙ ap (λ (x : A). op x d) (comm b c) ∙ assoc c b d) ∙ sym (assoc a c (op b d))

pub record Space : Type 1 where
  pub Car : Type 0
  pub nil : Car
  pub add : Car → Car → Car
  pub X : Car → Car
  pub assoc : (a b c : Car) → add (add a b) c ≡ add a (add b c)
  pub comm : (a b : Car) → add a b ≡ add b a
  pub unit : (a : Car) → add nil a ≡ a
  pub self : (a : Car) → add a a ≡ nil
  pub X_add : (a b : Car) → X (add a b) ≡ add (X a) (X b)

-- nil at 0, else e
abbrev pub chosen : (M : Space) → ℕ → M.Car → M.Car
chosen M zero e = M.nil
chosen M (suc k) e = e

-- e where b is odd, else nil
abbrev pub pick : (M : Space) → ℕ → M.Car → M.Car
pick M b e = chosen M (b % 2) e

-- the register s after the coefficients of v came in, each times e
unfoldable pub run : (M : Space) → M.Car → M.Car → List ℕ → M.Car
run M e s [] = s
run M e s (b ∷ v) = run M e (M.add (M.X s) (pick M b e)) v

-- v times e
abbrev pub times : (M : Space) → List ℕ → M.Car → M.Car
times M v e = run M e M.nil v

-- s shifted k times
unfoldable pub pow : (M : Space) → ℕ → M.Car → M.Car
pow M zero s = s
pow M (suc k) s = M.X (pow M k s)

-- a map from one space to another that commutes with sums and shifts
pub record Linear (M N : Space) (φ : M.Car → N.Car) : Type 0 where
  pub on_add : (a b : M.Car) → φ (M.add a b) ≡ N.add (φ a) (φ b)
  pub on_X : (a : M.Car) → φ (M.X a) ≡ N.X (φ a)

module _ (M : Space) where
  open M use {Car, nil, add, X, assoc, comm, unit, self, X_add}

  -- nil on the right
  pub unit_right : (a : Car) → add a nil ≡ a
  unit_right a = comm a nil ∙ unit a

  pub swap_middle : (a b c d : Car) → add (add a b) (add c d) ≡ add (add a c) (add b d)
  swap_middle = swap_of add assoc comm

  -- what is added twice cancels
  pub twice : (a b : Car) → add a (add a b) ≡ b
  twice a b = sym (assoc a a b) ∙ ap (λ (x : Car). add x b) (self a) ∙ unit b

  -- two elements whose sum is nil are equal
  pub equal_of_nil : (a b : Car) → add a b ≡ nil → a ≡ b
  equal_of_nil a b h = sym (unit_right a) ∙ ap (add a) (sym h) ∙ twice a b

  -- the other summand
  pub other : (a b c : Car) → add a b ≡ c → b ≡ add a c
  other a b c h = sym (twice a b) ∙ ap (add a) h

  -- what the sum of two bits picks
  chosen-sum : (x y z : ℕ) (e : Car) → x < 2 → y < 2 → z ≡ (x + y) % 2 → chosen M z e ≡ add (chosen M x e) (chosen M y e)
  chosen-sum zero zero z e p q h = ap (λ (n : ℕ). chosen M n e) h ∙ sym (unit nil)
  chosen-sum zero (suc zero) z e p q h = ap (λ (n : ℕ). chosen M n e) h ∙ sym (unit e)
  chosen-sum zero (suc (suc y)) z e p q h = absurd (omega arith)
  chosen-sum (suc zero) zero z e p q h = ap (λ (n : ℕ). chosen M n e) h ∙ sym (unit_right e)
  chosen-sum (suc zero) (suc zero) z e p q h = ap (λ (n : ℕ). chosen M n e) h ∙ sym (self e)
  chosen-sum (suc zero) (suc (suc y)) z e p q h = absurd (omega arith)
  chosen-sum (suc (suc x)) y z e p q h = absurd (omega arith)

  -- and what the parity of a sum of two numbers picks
  pub pick-sum : (a b : ℕ) (e : Car) → pick M ((a + b) % 2) e ≡ add (pick M a e) (pick M b e)
  pick-sum a b e = chosen-sum (a % 2) (b % 2) ((a + b) % 2 % 2) e (mod-lt a (lit< tt)) (mod-lt b (lit< tt)) (omega arith)

  -- nothing picked is nil
  chosen-nil : (k : ℕ) → chosen M k nil ≡ nil
  chosen-nil zero = refl
  chosen-nil (suc k) = refl

  -- u first, then v
  pub run-append : (e s : Car) (u v : List ℕ) → run M e s (u ++ v) ≡ run M e (run M e s u) v
  unfolding run
  run-append e s [] v = refl
  run-append e s (b ∷ u) v = run-append e (add (X s) (pick M b e)) u v

  -- one shift first or last
  pub pow_X : (k : ℕ) (s : Car) → pow M k (X s) ≡ X (pow M k s)
  unfolding pow
  pow_X zero s = refl
  pow_X (suc k) s = ap X (pow_X k s)

  -- times nil, the coefficients only shift
  run-nil : (s : Car) (v : List ℕ) → run M nil s v ≡ pow M (length v) s
  unfolding run pow
  run-nil s [] = refl
  run-nil s (b ∷ v) =
      ap (λ (x : Car). run M nil x v) (ap (add (X s)) (chosen-nil (b % 2)) ∙ unit_right (X s)) ∙ run-nil (X s) v ∙ pow_X (length v) s

  -- the run of a sum of lists
  run-sum : (e s r : Car) (u v : List ℕ) → length u ≡ length v → run M e (add s r) (sum u v) ≡ add (run M e s u) (run M e r v)
  unfolding run sum
  run-sum e s r [] [] h = refl
  run-sum e s r [] (b ∷ v) h = absurd (omega arith)
  run-sum e s r (a ∷ u) [] h = absurd (omega arith)
  run-sum e s r (a ∷ u) (b ∷ v) h =
      ap (λ (x : Car). run M e x (sum u v)) (ap₂ add (X_add s r) (pick-sum a b e) ∙ swap_middle (X s) (X r) (pick M a e) (pick M b e))
      ∙ run-sum e (add (X s) (pick M a e)) (add (X r) (pick M b e)) u v (suc_inj h)

  -- a sum times e
  pub times-sum : (u v : List ℕ) (e : Car) → length u ≡ length v → times M (sum u v) e ≡ add (times M u e) (times M v e)
  times-sum u v e h = ap (λ (x : Car). run M e x (sum u v)) (sym (unit nil)) ∙ run-sum e nil nil u v h

  -- nothing times e
  pub times_none : (e : Car) → times M [] e ≡ nil
  unfolding run
  times_none e = refl

  -- zeros behind shift
  pub zeros-back : (e s : Car) (k : ℕ) → run M e s (replicate k 0) ≡ pow M k s
  unfolding run pow
  zeros-back e s zero = refl
  zeros-back e s (suc k) = ap (λ (x : Car). run M e x (replicate k 0)) (unit_right (X s)) ∙ zeros-back e (X s) k ∙ pow_X k s

  -- shifts add up
  pub pow-add : (j k : ℕ) (s : Car) → pow M (j + k) s ≡ pow M j (pow M k s)
  unfolding pow
  pow-add zero k s = ap (λ (n : ℕ). pow M n s) (zero-add k)
  pow-add (suc j) k s = ap (λ (n : ℕ). pow M n s) (suc-add j k) ∙ ap X (pow-add j k s)

module _ (M N : Space) (φ : M.Car → N.Car) (L : Linear M N φ) where
  -- a linear map takes nil to nil
  pub linear_nil : φ M.nil ≡ N.nil
  linear_nil = sym (ap φ (M.unit M.nil)) ∙ L.on_add M.nil M.nil ∙ N.self (φ M.nil)

  -- it commutes with what is picked
  linear_chosen : (k : ℕ) (e : M.Car) → φ (chosen M k e) ≡ chosen N k (φ e)
  linear_chosen zero e = linear_nil
  linear_chosen (suc k) e = refl

  -- with runs
  pub linear_run : (e s : M.Car) (v : List ℕ) → φ (run M e s v) ≡ run N (φ e) (φ s) v
  unfolding run
  linear_run e s [] = refl
  linear_run e s (b ∷ v) =
      linear_run e (M.add (M.X s) (pick M b e)) v
      ∙ ap (λ (x : N.Car). run N (φ e) x v)
      (L.on_add (M.X s) (pick M b e) ∙ ap₂ N.add (L.on_X s) (linear_chosen (b % 2) e))

  -- and with products
  pub linear_times : (v : List ℕ) (e : M.Car) → φ (times M v e) ≡ times N v (φ e)
  linear_times v e = linear_run e M.nil v ∙ ap (λ (x : N.Car). run N (φ e) x v) linear_nil

module _ (M : Space) where
  open M use {Car, nil, add, X, unit, X_add}

  -- the shift is linear
  X_linear : Linear M M X
  X_linear = record { on_add = X_add; on_X = λ a. refl }

  -- k shifts commute with sums
  pub pow-sum : (k : ℕ) (a b : Car) → pow M k (add a b) ≡ add (pow M k a) (pow M k b)
  unfolding pow
  pow-sum zero a b = refl
  pow-sum (suc k) a b = ap X (pow-sum k a b) ∙ X_add (pow M k a) (pow M k b)

  -- k shifts are linear
  pow_linear : (k : ℕ) → Linear M M (pow M k)
  pow_linear k = record { on_add = pow-sum k; on_X = pow_X M k }

  -- what is picked of a sum
  chosen-add : (k : ℕ) (e d : Car) → chosen M k (add e d) ≡ add (chosen M k e) (chosen M k d)
  chosen-add zero e d = sym (unit nil)
  chosen-add (suc k) e d = refl

  -- the run of a sum of elements
  run-add : (e d s r : Car) (v : List ℕ) → run M (add e d) (add s r) v ≡ add (run M e s v) (run M d r v)
  unfolding run
  run-add e d s r [] = refl
  run-add e d s r (b ∷ v) =
      ap (λ (x : Car). run M (add e d) x v)
      (ap₂ add (X_add s r) (chosen-add (b % 2) e d) ∙ swap_middle M (X s) (X r) (pick M b e) (pick M b d))
      ∙ run-add e d (add (X s) (pick M b e)) (add (X r) (pick M b d)) v

  -- a list times an element is linear in the element
  times_linear : (v : List ℕ) → Linear M M (times M v)
  times_linear v =
      record {
        on_add = λ e d. ap (λ (x : Car). run M (add e d) x v) (sym (unit nil)) ∙ run-add e d nil nil v;
        on_X = λ e. sym (linear_times M M X X_linear v e);
      }

  -- v times nil is nil
  pub times-nil : (v : List ℕ) → times M v nil ≡ nil
  times-nil v = linear_nil M M (times M v) (times_linear v)

  -- v times a sum
  pub times-add : (v : List ℕ) (e d : Car) → times M v (add e d) ≡ add (times M v e) (times M v d)
  times-add v e d = (times_linear v).on_add e d

  -- the order of two factors does not matter
  pub times-times : (u v : List ℕ) (e : Car) → times M u (times M v e) ≡ times M v (times M u e)
  times-times u v e = linear_times M M (times M u) (times_linear u) v e

  -- k shifts of nil
  pub pow-nil : (k : ℕ) → pow M k nil ≡ nil
  pow-nil k = linear_nil M M (pow M k) (pow_linear k)

  -- k shifts of a product
  pub pow-times : (k : ℕ) (v : List ℕ) (e : Car) → pow M k (times M v e) ≡ times M v (pow M k e)
  pow-times k v e = linear_times M M (pow M k) (pow_linear k) v e

  -- a run from s is s shifted, plus the run from nil
  pub run_split : (e s : Car) (v : List ℕ) → run M e s v ≡ add (pow M (length v) s) (times M v e)
  run_split e s v =
      ap₂ (λ (x y : Car). run M x y v) (sym (unit e)) (sym (unit_right M s)) ∙ run-add nil e s nil v
      ∙ ap (λ (x : Car). add x (times M v e)) (run-nil M s v)

  -- u before v stands higher by the length of v
  pub times-append : (u v : List ℕ) (e : Car) → times M (u ++ v) e ≡ add (pow M (length v) (times M u e)) (times M v e)
  times-append u v e = run-append M e nil u v ∙ run_split e (times M u e) v

  -- zeros before v change nothing
  pub zeros-front : (k : ℕ) (v : List ℕ) (e : Car) → times M (replicate k 0 ++ v) e ≡ times M v e
  unfolding run
  zeros-front zero v e = refl
  zeros-front (suc k) v e =
      ap (λ (x : Car). run M e x (replicate k 0 ++ v)) (unit_right M (X nil) ∙ linear_nil M M X X_linear) ∙ zeros-front k v e

  -- 1 times e
  pub times-one : (e : Car) → times M (1 ∷ []) e ≡ e
  unfolding run
  times-one e = ap (λ (x : Car). add x e) (linear_nil M M X X_linear) ∙ unit e

  -- a first coefficient 1 times e, and the rest
  pub times_leading : (v : List ℕ) (e : Car) → times M (1 ∷ v) e ≡ add (pow M (length v) e) (times M v e)
  times_leading v e = times-append (1 ∷ []) v e ∙ ap (λ (x : Car). add (pow M (length v) x) (times M v e)) (times-one e)

  -- the two parts of a list in the other order: where n shifts do nothing, as many shifts as the part that went behind
  pub turn : (n : ℕ) (e : Car) → pow M n e ≡ e → (c a : List ℕ) → length c + length a ≡ n
      → times M (c ++ a) e ≡ pow M (length a) (times M (a ++ c) e)
  turn n e h c a l =
      let A = length a in
      let round : pow M A (pow M (length c) (times M a e)) ≡ times M a e =
      sym (pow-add M A (length c) (times M a e))
      ∙ ap (λ (k : ℕ). pow M k (times M a e)) (omega arith) ∙ pow-times n a e ∙ ap (times M a) h in
      times-append c a e ∙ M.comm (pow M A (times M c e)) (times M a e)
      ∙ ap (λ (x : Car). add x (pow M A (times M c e))) (sym round)
      ∙ sym (pow-sum A (pow M (length c) (times M a e)) (times M c e)) ∙ ap (pow M A) (sym (times-append a c e))

  -- where n shifts give s again and no fewer do, the first n shifts differ
  pub one-turn : (n : ℕ) (c : Car) → pow M n c ≡ c → ((k : ℕ) → 0 < k → k < n → pow M k c ≡ c → ⊥)
      → (a b : ℕ) → a < b → b < n → pow M a c ≡ pow M b c → ⊥
  one-turn n c h fresh a b p q e =
      fresh (n - b + a) (omega arith) (omega arith)
      (pow-add M (n - b) a c ∙ ap (pow M (n - b)) e ∙ sym (pow-add M (n - b) b c)
      ∙ ap (λ (k : ℕ). pow M k c) (omega arith) ∙ h)
