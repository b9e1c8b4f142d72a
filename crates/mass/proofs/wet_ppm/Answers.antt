-- `mass::wet_ppm` meets its contract: each case is the definition's, and its 10,000 is the definition's f64. Assumes nothing.
use lib.Ieee.{of_bits, of_int}
use Rattle.mass.specs.Mass.{wet_ppm}
use Rattle.mass.proofs.wet_ppm.Goals as goal

pub returns-in-WetPpm : goal.returns-in-WetPpm
unfolding wet_ppm
returns-in-WetPpm c =
    rw c.in-WetPpm.is

pub returns-in-DryPpm : goal.returns-in-DryPpm
unfolding wet_ppm
returns-in-DryPpm c =
    rw c.in-DryPpm.is

pub returns-in-WetPercent : goal.returns-in-WetPercent
unfolding wet_ppm of_bits of_int
returns-in-WetPercent c =
    rw c.in-WetPercent.is

pub returns-in-DryPercent : goal.returns-in-DryPercent
unfolding wet_ppm of_bits of_int
returns-in-DryPercent c =
    rw c.in-DryPercent.is
