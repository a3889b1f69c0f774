-- `quick_encoder::tail::five_words` meets its contract: the closure tests each word, from the first on. Assumes nothing.
use mathlib.Core.Path.{◌≡◌, refl, sym, ap, ap₂, ◌∙◌}
use mathlib.Core.Bool.{Bool, true, ◌&&◌}
use mathlib.Core.List.{List, ◌++◌}
use Prim.Native.Nat.{ℕ, suc, ◌+◌, ◌-◌, ◌*◌, ◌/◌, ◌%◌, ◌^◌}
use native.Mathlib.Nat.{mul-suc, add_comm}
use Rattle.std.proofs.Common.{rules}
use Rattle.bits.specs.Bits.{bits_of}
use Rattle.bits.specs.Groups.{over_groups}
use Rattle.bits.proofs.Numbers.{length-bits_of, number_of-bits_of, bits_of-add}
use Rattle.bits.proofs.Parts.{front_is, rest_is}
use Rattle.words.specs.Words.{in_table, is_word}
use Rattle.telegrams.specs.Fields.{all_words}
use Rattle.conditions.specs.Conditions.{each}
use Rattle.conditions.proofs.Each.{each_from_all}
use Rattle.quick_encoder.proofs.tail.five_words.Goals as goal

-- the last k words of x, and the one before them
abbrev last_words : ℕ → ℕ → Bool
last_words x k = all_words k (bits_of (11 * k) x)

abbrev word_at : ℕ → ℕ → ℕ
word_at x k = x / 2 ^ (11 * k) % 2048

next_word : (x k : ℕ) (t : Bool) → last_words x k ≡ t → last_words x (suc k) ≡ in_table (word_at x k) && t
unfolding over_groups is_word
next_word x k t e =
    let word = bits_of 11 (x / 2 ^ (11 * k)) in
    let rest = bits_of (11 * k) x in
    let place : 11 * suc k ≡ 11 + 11 * k = mul-suc 11 k ∙ add_comm (11 * k) 11 in
    let split : bits_of (11 * suc k) x ≡ word ++ rest = ap (λ (n : ℕ). bits_of n x) place ∙ bits_of-add 11 (11 * k) x in
    let size = length-bits_of 11 (x / 2 ^ (11 * k)) in
    ap₂ (λ (w others : List ℕ). is_word w && all_words k others) (front_is word rest _ 11 size split) (rest_is word rest _ 11 size split)
    ∙ ap₂ (λ (n : ℕ) (b : Bool). in_table n && b) (number_of-bits_of 11 (x / 2 ^ (11 * k))) e

-- the five from the first on
five : (x : ℕ) → each (λ (i : ℕ). in_table (x / 2 ^ (44 - 11 * i) % 2048)) 0 5 ≡ all_words 5 (bits_of 55 x)
unfolding each over_groups
five x = sym (next_word x 4 _ (next_word x 3 _ (next_word x 2 _ (next_word x 1 _ (next_word x 0 true refl)))))

pub returns : goal.returns
returns c = each_from_all _ 0 5 _ _ _ c.all.ensures.ran (λ x b q e. search rules) ∙ five c.args.x
