-- `mass::co2_mass` meets its contract: it is the mass at 1,000 to the gram, with the limit of CO2. Assumes nothing.
use mathlib.Core.Bool.{false≢true}
use lib.Dec.{lit≤}
use lib.Ieee.{of_bits, of_int}
use Rattle.mass.specs.Inside.{bounded}
use Rattle.mass.specs.Mass.{co2_mass}
use Rattle.mass.proofs.co2_mass.Goals as goal

pub mass_of-requires : goal.mass_of-requires
unfolding of_bits
mass_of-requires c =
    bounded (λ s. absurd (false≢true s)) (lit≤ tt)

pub returns : goal.returns
unfolding co2_mass of_bits of_int
returns c =
    c.mass_of.ensures
