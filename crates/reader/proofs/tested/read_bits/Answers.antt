-- `reader::tested::read_bits` meets its contract: the answer at each test, and what the telegram at the turn found gives. Assumes nothing.
use mathlib.Core.Path.{◌≡◌, sym, ap, ◌∙◌}
use mathlib.Core.Bool.{true}
use mathlib.Core.List.{List}
use Prim.Native.Nat.{ℕ, ◌≤◌}
use native.Mathlib.Omega.{arith}
use lib.Dec.{T}
use lib.ListN.{length, take}
use lib.Seq.{length-take-le}
use Rattle.bits.specs.Bits.{all_bits, number_of, bits_of}
use Rattle.bits.proofs.AllBits.{all_bits-take}
use Rattle.bits.proofs.Tests.{is_true}
use Rattle.formats.specs.declared.format.Format.{Format}
use Rattle.formats.specs.Numbers.{numbers_of, f_of}
use Rattle.cyclic.specs.Remainder.{remainder}
use Rattle.cyclic.specs.Check.{turn_of, divisible}
use Rattle.cyclic.proofs.Formats.{facts_of}
use Rattle.cyclic.proofs.Machine.Lists.{remainder_list}
use Rattle.reader.specs.Reads.{ends_agree, turn_found}
use Rattle.reader.proofs.Steps.{room_refused, ends_refused, divisible_refused, turn_refused, turn_found_lem}
use Rattle.reader.proofs.Turns.{found-leaves}
use Rattle.reader.proofs.tested.read_bits.Goals as goal
use Rattle.std.specs.Prelude.{Option}

-- the turn that the remainder by f belongs to
turn_is : (format : Format) (w : List ℕ) → T (all_bits w) → (n r : ℕ) (t : Option ℕ) → n ≡ (numbers_of format).n
    → r ≡ number_of (remainder (f_of (numbers_of format)) (take n w)) → t ≡ turn_of (numbers_of format) (bits_of 10 r)
    → turn_found (numbers_of format) w ≡ t
unfolding turn_found
turn_is format w bits n r t n-is r-is t-is =
    let F = numbers_of format in
    ap (λ (i : ℕ). turn_of F (remainder (f_of F) (take i w))) (sym n-is)
    ∙ ap (turn_of F) (sym (remainder_list (facts_of format).f_degree (take n w) (all_bits-take n w bits) r-is))
    ∙ sym t-is

pub returns-then-output-user_bits : goal.returns-then-output-user_bits
returns-then-output-user_bits c =
    let bits : all_bits c.args.window.bits.now ≡ true = is_true (all_bits c.args.window.bits.now) c.args.window.are_bits in
    let a = c.args in
    room_refused a.asked a.window.format a.window.bits.now a.output.now c.args.window.size (bits) (omega arith)

pub returns-then-not-ends_agree : goal.returns-then-not-ends_agree
returns-then-not-ends_agree c =
    let bits : all_bits c.args.window.bits.now ≡ true = is_true (all_bits c.args.window.bits.now) c.args.window.are_bits in
    let room : let a = c.args in (numbers_of a.window.format).m ≤ length a.output.now = omega arith in
    let a = c.args in
    ends_refused a.asked a.window.format a.window.bits.now a.output.now c.args.window.size (bits) (room)
    (sym c.ends_agree.ensures ∙ c.if-not-ends_agree.true)

pub slice_bounds-divisible-end : goal.slice_bounds-divisible-end
slice_bounds-divisible-end c =
    let first_size : let w = c.args.window.bits.now in c.telegram_bits-n.result ≡ length (take c.telegram_bits-n.result w) =
    let w = c.args.window.bits.now in
    sym (length-take-le c.telegram_bits-n.result w (omega arith)) in
    first_size

pub divisible-requires : goal.divisible-requires
divisible-requires c =
    all_bits-take c.telegram_bits-n.result c.args.window.bits.now c.args.window.are_bits

pub returns-then-not-divisible : goal.returns-then-not-divisible
returns-then-not-divisible c =
    let bits : all_bits c.args.window.bits.now ≡ true = is_true (all_bits c.args.window.bits.now) c.args.window.are_bits in
    let room : let a = c.args in (numbers_of a.window.format).m ≤ length a.output.now = omega arith in
    let agree : let a = c.args in ends_agree (numbers_of a.window.format) a.window.bits.now ≡ true = sym c.ends_agree.ensures ∙ c.if-not-ends_agree.false in
    let tested : let a = c.args in divisible (numbers_of a.window.format) (take (numbers_of a.window.format).n a.window.bits.now) ≡ c.divisible.result =
    let a = c.args in
    ap (λ (n : ℕ). divisible (numbers_of a.window.format) (take n a.window.bits.now)) (sym c.telegram_bits-n.ensures)
    ∙ sym c.divisible.ensures in
    let a = c.args in
    divisible_refused a.asked a.window.format a.window.bits.now a.output.now c.args.window.size (bits) (room) (agree)
    (tested ∙ c.if-not-divisible.true)

pub slice_bounds-remainder_f-end : goal.slice_bounds-remainder_f-end
slice_bounds-remainder_f-end c =
    let first_size : let w = c.args.window.bits.now in c.telegram_bits-n.result ≡ length (take c.telegram_bits-n.result w) =
    let w = c.args.window.bits.now in
    sym (length-take-le c.telegram_bits-n.result w (omega arith)) in
    first_size

pub remainder_f-rest-requires : goal.remainder_f-rest-requires
remainder_f-rest-requires c =
    all_bits-take c.telegram_bits-n.result c.args.window.bits.now c.args.window.are_bits

pub returns-in_default : goal.returns-in_default
returns-in_default c =
    let bits : all_bits c.args.window.bits.now ≡ true = is_true (all_bits c.args.window.bits.now) c.args.window.are_bits in
    let room : let a = c.args in (numbers_of a.window.format).m ≤ length a.output.now = omega arith in
    let agree : let a = c.args in ends_agree (numbers_of a.window.format) a.window.bits.now ≡ true = sym c.ends_agree.ensures ∙ c.if-not-ends_agree.false in
    let tested : let a = c.args in divisible (numbers_of a.window.format) (take (numbers_of a.window.format).n a.window.bits.now) ≡ c.divisible.result =
    let a = c.args in
    ap (λ (n : ℕ). divisible (numbers_of a.window.format) (take n a.window.bits.now)) (sym c.telegram_bits-n.ensures)
    ∙ sym c.divisible.ensures in
    let a = c.args in
    let found =
    turn_is a.window.format a.window.bits.now c.args.window.are_bits c.telegram_bits-n.result c.remainder_f-rest.result c.turn.result
    c.telegram_bits-n.ensures c.remainder_f-rest.ensures.value c.turn.ensures in
    turn_refused a.asked a.window.format a.window.bits.now a.output.now c.args.window.size (bits) (room) (agree)
    (tested ∙ c.if-not-divisible.false) (found ∙ c.in_default.is)

pub read_turned-requires : goal.read_turned-requires
read_turned-requires c =
    let room : let a = c.args in (numbers_of a.window.format).m ≤ length a.output.now = omega arith in
    let a = c.args in
    let found =
    turn_is a.window.format a.window.bits.now c.args.window.are_bits c.telegram_bits-n.result c.remainder_f-rest.result c.turn.result
    c.telegram_bits-n.ensures c.remainder_f-rest.ensures.value c.turn.ensures in
    let below = found-leaves (numbers_of a.window.format) a.window.bits.now c.in-Some.t (found ∙ c.in-Some.is) in record {
      t_bound = omega (arith, below.0);
      room = room;
    }

pub returns : goal.returns
returns c =
    let bits : all_bits c.args.window.bits.now ≡ true = is_true (all_bits c.args.window.bits.now) c.args.window.are_bits in
    let room : let a = c.args in (numbers_of a.window.format).m ≤ length a.output.now = omega arith in
    let agree : let a = c.args in ends_agree (numbers_of a.window.format) a.window.bits.now ≡ true = sym c.ends_agree.ensures ∙ c.if-not-ends_agree.false in
    let tested : let a = c.args in divisible (numbers_of a.window.format) (take (numbers_of a.window.format).n a.window.bits.now) ≡ c.divisible.result =
    let a = c.args in
    ap (λ (n : ℕ). divisible (numbers_of a.window.format) (take n a.window.bits.now)) (sym c.telegram_bits-n.ensures)
    ∙ sym c.divisible.ensures in
    let a = c.args in
    let found =
    turn_is a.window.format a.window.bits.now c.args.window.are_bits c.telegram_bits-n.result c.remainder_f-rest.result c.turn.result
    c.telegram_bits-n.ensures c.remainder_f-rest.ensures.value c.turn.ensures in
    turn_found_lem a.asked a.window.format a.window.bits.now a.output.now c.args.window.size (bits) (room) (agree)
    (tested ∙ c.if-not-divisible.false) c.in-Some.t (found ∙ c.in-Some.is)
    ∙ c.read_turned.ensures
