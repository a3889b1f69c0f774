-- What holds of every output of a length, by the case of an answer (for a function that is told the output's length only). Assumes nothing.
use Prim.Native.Nat.{ℕ}
use mathlib.Core.Path.{◌≡◌, refl, subst}
use mathlib.Core.List.{List}
use lib.ListN.{length}

pub for_output : {A : Type 0} (P : List ℕ → A → Type 0) (out : List ℕ) (answer case : A)
    → ((o : List ℕ) → length o ≡ length out → P o answer) → answer ≡ case → P out case
for_output P out answer case tells e = subst (P out) e (tells out refl)
