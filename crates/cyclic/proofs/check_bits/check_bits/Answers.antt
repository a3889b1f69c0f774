-- `cyclic::check_bits::check_bits` meets its contract: the register goes on over 85 zeros, and g is added. Assumes nothing.
use Rattle.std.proofs.Common.{List, ◌++◌, drop, replicate, sym, ap, ◌∙◌}
use Rattle.bits.specs.Bits.{all_bits, number_of}
use Rattle.bits.proofs.AllBits.{all_bits-append}
use Rattle.formats.specs.Numbers.{numbers_of, fg_of}
use Rattle.cyclic.specs.Check.{check_bits}
use Rattle.cyclic.specs.Remainder.{remainder_from, remainder}
use Rattle.cyclic.proofs.Lists.{bits_zeros}
use Rattle.cyclic.proofs.Remainders.{remainder_bits, length-remainder}
use Rattle.cyclic.proofs.Formats.{facts_of}
use Rattle.cyclic.proofs.Machine.Lists.{remainder_list, remainder-append, checked_number, checked_fits}
use Rattle.cyclic.proofs.check_bits.check_bits.Goals as goal

pub remainder_from_fg-rest-requires : goal.remainder_from_fg-rest-requires
unfolding all_bits
remainder_from_fg-rest-requires c = record { start_bound = c.remainder_fg-above.ensures.result_bound; are_bits = tt }

pub returns : goal.returns
unfolding check_bits
returns c =
    let x = c.args.format in
    let m = (facts_of x).fg_degree in
    let d = fg_of (numbers_of x) in
    let bits = c.args.bits.now in
    let after = bits ++ replicate 85 0 in
    let rest =
    c.remainder_from_fg-rest.ensures.result_value
    ∙ ap (λ (r : List _). number_of (remainder_from (drop 1 d) r (replicate 85 0)))
    (remainder_list m bits c.requires c.remainder_fg-above.ensures.result_value)
    ∙ ap number_of (sym (remainder-append d bits (replicate 85 0)))
    in
    let hr = remainder_bits d after (all_bits-append bits (replicate 85 0) c.requires (bits_zeros 85)) in
    let size = length-remainder m after in
    let e = c.bitxor.ensures ∙ checked_number x (remainder d after) hr size rest c.g.ensures in record {
      result_value = e;
      result_bound = checked_fits x (remainder d after) hr size e;
    }
