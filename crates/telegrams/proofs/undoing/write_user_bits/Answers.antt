-- `telegrams::undoing::write_user_bits` meets its contract, by those of `descramble` and `remove_sum`. Assumes nothing.
use mathlib.Core.Path.{◌≡◌, sym, ap, ap₂, ◌∙◌}
use mathlib.Core.List.{List, ◌++◌}
use Prim.Native.Nat.{ℕ, ◌/◌}
use native.Mathlib.Omega.{arith}
use lib.ListN.{length, take}
use Rattle.bits.proofs.Parts.{front_is, rest_is}
use Rattle.scrambling.specs.Scrambling.{descrambled}
use Rattle.scrambling.specs.Sum.{without_sum}
use Rattle.scrambling.proofs.Scrambled.{descrambled-length, descrambled_bits}
use Rattle.telegrams.proofs.undoing.write_user_bits.Goals as goal

pub slice_bounds-remove_sum-end-2 : goal.slice_bounds-remove_sum-end-2
slice_bounds-remove_sum-end-2 c =
    let front : let a = c.args in take (length a.scrambled.now) c.descramble.new.out ≡ descrambled a.b a.scrambled.now =
    let a = c.args in
    front_is (descrambled a.b a.scrambled.now) _ _ _ (descrambled-length a.b a.scrambled.now) c.descramble.ensures in
    let a = c.args in
    sym (ap length (front) ∙ descrambled-length a.b a.scrambled.now)

pub remove_sum-requires : goal.remove_sum-requires
remove_sum-requires c =
    let front : let a = c.args in take (length a.scrambled.now) c.descramble.new.out ≡ descrambled a.b a.scrambled.now =
    let a = c.args in
    front_is (descrambled a.b a.scrambled.now) _ _ _ (descrambled-length a.b a.scrambled.now) c.descramble.ensures in
    let a = c.args in
    let size = descrambled-length a.b a.scrambled.now in
    rw (front) (record {
      are_bits = descrambled_bits a.b a.scrambled.now;
      in_bounds = omega (arith, size);
      block_len_bound = omega (arith, size);
    })

pub returns : goal.returns
returns c =
    let front : let a = c.args in take (length a.scrambled.now) c.descramble.new.out ≡ descrambled a.b a.scrambled.now =
    let a = c.args in
    front_is (descrambled a.b a.scrambled.now) _ _ _ (descrambled-length a.b a.scrambled.now) c.descramble.ensures in
    let a = c.args in
    let u = descrambled a.b a.scrambled.now in
    ap₂ ◌++◌
    (c.remove_sum.ensures ∙ ap (λ (l : List ℕ). without_sum (length l / 10) l) (front)
    ∙ ap (λ (i : ℕ). without_sum (i / 10) u) (descrambled-length a.b a.scrambled.now))
    (rest_is u _ _ _ (descrambled-length a.b a.scrambled.now) c.descramble.ensures)
