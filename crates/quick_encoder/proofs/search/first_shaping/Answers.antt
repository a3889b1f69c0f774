-- `quick_encoder::search::first_shaping` meets its contract. The loop's invariant: no esb before the next one completes the shaped data, and the
-- tail is that of the next one. Assumes nothing.
use mathlib.Core.Path.{◌≡◌, sym, ap, ap₂, subst, ◌∙◌}
use mathlib.Core.Bool.{Bool}
use mathlib.Core.List.{List, ◌++◌}
use Prim.Native.Nat.{ℕ, ◌+◌}
use native.Mathlib.Omega.{arith}
use lib.Bits.{bit_xor}
use lib.Dec.{T}
use Rattle.bits.specs.Bits.{all_bits}
use Rattle.bits.proofs.Left.{left_fewer, left-found, left-none}
use Rattle.formats.specs.declared.format.Format.{Format}
use Rattle.formats.specs.Numbers.{numbers_of}
use Rattle.formats.specs.Polynomial.{sum}
use Rattle.cyclic.proofs.Formats.{facts_of}
use Rattle.encoder.specs.Searched.{made_proper}
use Rattle.quick_encoder.specs.Tail.{tail_of, change_of}
use Rattle.quick_encoder.specs.PairFrom.{completes, shaping_at}
use Rattle.quick_encoder.proofs.OneScrambling.{shaping_all}
use Rattle.quick_encoder.proofs.Tails.{tail-next}
use Rattle.quick_encoder.proofs.search.first_shaping.Goals as goal

-- what the call answers is the test of e
tested_of : (format : Format) (d : List ℕ) (B e : ℕ) (d' w : List ℕ) (answer : Bool) → d' ≡ d → w ≡ tail_of (numbers_of format) d B e
    → answer ≡ made_proper format (d' ++ w) → completes format d B e ≡ answer
unfolding completes
tested_of format d B e d' w answer front tail_is h = sym (h ∙ ap₂ (λ (x y : List ℕ). made_proper format (x ++ y)) front tail_is)

pub loop-shaping-init : goal.loop-shaping-init
loop-shaping-init c =
    let a = c.args in (
      c.first_tail-tail.auto.telegram,
      record {
        front = c.first_tail-tail.ensures.telegram_unchanged;
        tail_is = c.first_tail-tail.ensures.result_value;
        rest = shaping_all a.format _ a.pair.scrambling a.pair.shaping (omega (arith, c.requires));
      },
    )

pub passes-requires : goal.passes-requires
passes-requires c =
    record {
      format_in_bounds = omega (arith, c.requires.format_in_bounds, c.loop-shaping.invariant.0);
      are_bits = subst (λ (x : List ℕ). T (all_bits x)) (sym c.loop-shaping.invariant.1.front) c.requires.are_bits;
    }

pub returns-then-passes : goal.returns-then-passes
returns-then-passes c =
    let a = c.args in
    let trying = c.loop-shaping.invariant.1 in
    let tested = tested_of a.format _ a.pair.scrambling c.loop-shaping.shaping _ _ _ trying.front trying.tail_is c.passes.ensures.value in
    sym (ap shaping_at (left-found trying.rest (omega arith) (tested ∙ c.if-passes.true)))

pub loop-shaping-preserved : goal.loop-shaping-preserved
loop-shaping-preserved c =
    let a = c.args in
    let F = numbers_of a.format in
    let e = c.loop-shaping.shaping in
    let trying = c.loop-shaping.invariant.1 in
    let tested = tested_of a.format _ a.pair.scrambling e _ _ _ trying.front trying.tail_is c.passes.ensures.value in (
      c.passes.auto.telegram ∙ c.loop-shaping.invariant.0,
      record {
        front = c.passes.ensures.telegram_unchanged ∙ trying.front;
        tail_is = c.next-tail.ensures ∙ ap (λ (w : List ℕ). sum w (change_of F (bit_xor e (e + 1)))) trying.tail_is
            ∙ sym (tail-next F (facts_of a.format) _ a.pair.scrambling e c.requires.are_bits);
        rest = left_fewer trying.rest (omega arith) (tested ∙ c.if-passes.false);
      },
    )

pub returns : goal.returns
returns c = sym (ap shaping_at (left-none c.loop-shaping.invariant.1.rest (omega arith)))
