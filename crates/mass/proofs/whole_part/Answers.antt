-- `mass::whole_part` meets its contract: below 1 there is no whole part, and from 1 up it is what the bits say (`proofs/WholePart.antt`).
-- Assumes nothing.
use mathlib.Core.Path.{sym}
use lib.Dec.{lit≤}
use lib.Ieee.{of_bits, to_bits, binary64}
use Rattle.mass.specs.Mass.{whole_part}
use Rattle.mass.proofs.Ranges.{bounded_no_nan}
use Rattle.mass.proofs.WholePart.{WholeFromBits, under_one, from_one}
use Rattle.mass.proofs.whole_part.Goals as goal

pub returns-then-x : goal.returns-then-x
unfolding of_bits
returns-then-x c =
    sym (under_one c.requires c.if-x.true)

pub float_to_bits-bits : goal.float_to_bits-bits
float_to_bits-bits c =
    bounded_no_nan c.requires

pub overflow_sub-result : goal.overflow_sub-result
unfolding of_bits
overflow_sub-result c =
    let bits_of : WholeFromBits (to_bits binary64 c.args.x) (whole_part c.args.x) = from_one c.requires (lit≤ tt) c.if-x.false in
    bits_of.least

pub overflow_shr-result : goal.overflow_shr-result
unfolding of_bits
overflow_shr-result c =
    let bits_of : WholeFromBits (to_bits binary64 c.args.x) (whole_part c.args.x) = from_one c.requires (lit≤ tt) c.if-x.false in
    bits_of.most

pub returns : goal.returns
unfolding of_bits
returns c =
    let bits_of : WholeFromBits (to_bits binary64 c.args.x) (whole_part c.args.x) = from_one c.requires (lit≤ tt) c.if-x.false in
    bits_of.whole
