-- The tests on remainders as tests on numbers: divisible by g, and with the remainder by f of turn 0. Assumes nothing.
use Rattle.std.proofs.Common.{◌≡◌, ℕ, T, eqb, List, replicate, sym, ap, ◌∙◌, eqb→eq}
use lib.Dec.{eqb_refl}
use Rattle.bits.specs.Bits.{all_bits, same, number_of}
use Rattle.bits.proofs.Equal.{same_equal, same_of}
use Rattle.bits.proofs.Tests.{tests_agree}
use Rattle.formats.specs.declared.format.Format.{Format}
use Rattle.formats.specs.Numbers.{numbers_of, f_of, g_of}
use Rattle.cyclic.specs.Check.{divisible, unturned, turn_remainder}
use Rattle.cyclic.specs.Remainder.{remainder}
use Rattle.cyclic.proofs.Formats.{facts_of}
use Rattle.cyclic.proofs.Laws.{remainder_bits, length-remainder, bits_turn, length-turn}
use Rattle.cyclic.proofs.Machine.Lists.{one_list, remainder-zero, zero-remainder}

-- equal numbers pass the test of equality
equal : (m n : ℕ) → m ≡ n → T (eqb m n)
equal m n e = rw e (eqb_refl n)

-- g divides v where the remainder's number is 0
pub divisible_number : (x : Format) (v : List ℕ) → T (all_bits v) → (y : ℕ) → y ≡ number_of (remainder (g_of (numbers_of x)) v)
    → divisible (numbers_of x) v ≡ eqb y 0
unfolding divisible
divisible_number x v hv y e =
    let r = remainder (g_of (numbers_of x)) v in
    tests_agree (same r (replicate 75 0)) (eqb y 0)
    (λ t. equal y 0 (zero-remainder (facts_of x).g_degree v hv e (same_equal r (replicate 75 0) t)))
    (λ t. same_of r (replicate 75 0) (remainder-zero (facts_of x).g_degree v hv e (eqb→eq y 0 t)))

-- v is unturned where the remainder's number is that of turn 0
pub unturned_number : (x : Format) (v : List ℕ) → T (all_bits v) → (y z : ℕ) → y ≡ number_of (remainder (f_of (numbers_of x)) v)
    → z ≡ number_of (turn_remainder (numbers_of x) 0) → unturned (numbers_of x) v ≡ eqb y z
unfolding unturned
unturned_number x v hv y z e f =
    let r = remainder (f_of (numbers_of x)) v in
    let s = turn_remainder (numbers_of x) 0 in
    tests_agree (same r s) (eqb y z)
    (λ t. equal y z (e ∙ ap number_of (same_equal r s t) ∙ sym f))
    (λ t. same_of r s (one_list 10 r s (remainder_bits (f_of (numbers_of x)) v hv) (bits_turn (numbers_of x) (facts_of x) 0)
    (length-remainder (facts_of x).f_degree v) (length-turn (numbers_of x) (facts_of x) 0) (sym e ∙ eqb→eq y z t ∙ f)))
