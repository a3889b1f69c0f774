-- `cyclic::divisors::divisible` meets its contract: the remainder by g is 0 where both words are. Assumes nothing.
use Rattle.std.proofs.Common.{◌≡◌, ℕ, ◌+◌, ◌*◌, ◌^◌, ◌&&◌, eqb, sym, ◌∙◌, arith}
use Rattle.std.proofs.lemmas.Bool.Decides.{nat_tests}
use Rattle.formats.specs.Value.{value_of}
use Rattle.cyclic.proofs.Machine.Tests.{divisible_number}
use Rattle.cyclic.proofs.divisors.divisible.Goals as goal

-- two words are those of 0 where their number is 0
words_zero : (high low high' low' : ℕ) → high' * 2 ^ 64 + low' ≡ 0 → eqb high high' && eqb low low' ≡ eqb (high * 2 ^ 64 + low) 0
words_zero high low high' low' e = grind (arith, nat_tests)

pub returns : goal.returns
returns c =
    let g = c.remainder_g-rest in
    let z = c.zero.result in
    c.eq.ensures ∙ words_zero g.result.high g.result.low z.high z.low c.zero.ensures
    ∙ sym (divisible_number c.args.format c.args.bits.now c.requires (value_of g.result) g.ensures.result_value)
