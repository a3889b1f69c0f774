-- `bits::all_bits` meets its contract: the largest byte is below 2 where each is. Assumes nothing.
use Rattle.std.proofs.Common.{◌≡◌, ℕ, Bool, ◌&&◌, List, [], ◌∷◌, max, ltb, sym, ap, ◌∙◌, arith, rules}
use mathlib.Core.Bool.{and-true, and_assoc}
use Rattle.std.specs.List.{fold}
use Rattle.std.proofs.lemmas.Bool.Decides.{nat_tests}
use Rattle.bits.specs.Bits.{all_bits}
use Rattle.bits.proofs.all_bits.Goals as goal

-- both of two numbers are below 2 where the larger is
larger : (a b : ℕ) → ltb (max a b) 2 ≡ ltb a 2 && ltb b 2
larger a b = grind (arith, nat_tests)

largest : (m : ℕ) (s : List ℕ) → ltb (fold max m s) 2 ≡ ltb m 2 && all_bits s
unfolding all_bits
largest m [] = sym (and-true (ltb m 2))
largest m (b ∷ s) =
    largest (max m b) s ∙ ap (λ (t : Bool). t && all_bits s) (larger m b) ∙ and_assoc (ltb m 2) (ltb b 2) (all_bits s)

pub returns : goal.returns
returns c =
    let most : c.fold-most.result ≡ fold max 0 c.args.s.now = search rules in
    ap (λ (m : ℕ). ltb m 2) most ∙ largest 0 c.args.s.now
