-- `mass::nox_mass` meets its contract: it is the mass at 1,000,000 to the gram, with the limit of NOx. Assumes nothing.
use mathlib.Core.Bool.{false≢true}
use lib.Dec.{lit≤}
use lib.Ieee.{of_bits, of_int}
use Rattle.mass.specs.Inside.{bounded}
use Rattle.mass.specs.Mass.{nox_mass}
use Rattle.mass.proofs.nox_mass.Goals as goal

pub mass_of-requires : goal.mass_of-requires
unfolding of_bits
mass_of-requires c =
    bounded (λ s. absurd (false≢true s)) (lit≤ tt)

pub returns : goal.returns
unfolding nox_mass of_bits of_int
returns c =
    c.mass_of.ensures
