-- `mass::setting_in_range` meets its contract: it is the conjunction of the tests that it calls; its 0.01 is the f64 nearest to 1/100. Assumes nothing.
use lib.Ieee.{of_bits, of_int, round}
use Rattle.mass.specs.Mass.{setting_in_range}
use Rattle.mass.proofs.setting_in_range.Goals as goal

pub returns : goal.returns
unfolding setting_in_range of_bits of_int round
returns c =
    rw (c.above_zero_to.ensures, c.above_zero_to-2.ensures, c.zero_to.ensures)
