-- `encoder::search::passes` meets its contract. Assumes nothing.
use mathlib.Core.Path.{◌≡◌, sym, ap, ◌∙◌}
use mathlib.Core.Bool.{Bool, true, false, ◌&&◌}
use mathlib.Core.List.{List}
use Prim.Native.Nat.{ℕ, ◌-◌, ◌≤◌}
use native.Mathlib.Omega.{arith}
use lib.ListN.{length, drop, length-drop}
use Rattle.bits.proofs.AllBits.{all_bits-drop}
use Rattle.formats.specs.declared.format.Format.{Format}
use Rattle.formats.specs.Numbers.{numbers_of}
use Rattle.formats.proofs.Sizes.{sizes_of}
use Rattle.telegrams.specs.Fields.{all_words}
use Rattle.telegrams.proofs.Buffers.Fronts.{lent, lent_is}
use Rattle.conditions.specs.Conditions.{off_step_within, not_repeating, thinned_within}
use Rattle.encoder.specs.Searched.{made_proper}
use Rattle.encoder.proofs.search.passes.Goals as goal

-- the test of the last ten words gave x, and that of the conditions is the rest
tested : (format : Format) (t : List ℕ) (x : Bool) → length t ≡ (numbers_of format).n → all_words 10 (lent (length t - 110) t) ≡ x
    → made_proper format t ≡ x && (off_step_within format t && (not_repeating format t && thinned_within format t))
unfolding made_proper
tested format t x size e =
    let rest = off_step_within format t && (not_repeating format t && thinned_within format t) in
    ap (λ (n : ℕ). all_words 10 (drop (n - 110) t) && rest) (sym size)
    ∙ ap (λ (b : Bool). b && rest) (ap (all_words 10) (sym (lent_is (length t - 110) t)) ∙ e)

pub overflow_sub-at : goal.overflow_sub-at
overflow_sub-at c =
    let last : 110 ≤ length c.args.telegram.bits.now = omega (arith, sizes_of c.args.telegram.format) in
    last

pub all_words-requires : goal.all_words-requires
all_words-requires c =
    let last : 110 ≤ length c.args.telegram.bits.now = omega (arith, sizes_of c.args.telegram.format) in
    let t = c.args.telegram.bits.now in
    rw (lent_is (length t - 110) t) (record {
      are_bits = all_bits-drop (length t - 110) t c.args.telegram.are_bits;
      k_in_bounds = omega (arith, length-drop (length t - 110) t, last);
    })

pub returns-else-all_words : goal.returns-else-all_words
returns-else-all_words c =
    c.if-all_words.false ∙ sym (tested c.args.telegram.format c.args.telegram.bits.now false c.args.telegram.size
    (sym c.all_words.ensures ∙ c.if-all_words.false))

pub returns-then-all_words : goal.returns-then-all_words
returns-then-all_words c =
    c.conditions.ensures
    ∙ sym (tested c.args.telegram.format c.args.telegram.bits.now true c.args.telegram.size
    (sym c.all_words.ensures ∙ c.if-all_words.true))
