-- `acceleration::d_of` meets its contract by the order of the two speeds. Assumes nothing.
use native.Mathlib.Omega.{arith}
use Rattle.std.proofs.lemmas.Int.{ints, to_z-of_z}
use Rattle.acceleration.specs.D.{d_of}
use Rattle.acceleration.proofs.d_of.Goals as goal

pub returns-clause-value : goal.returns-clause-value
unfolding d_of
returns-clause-value c = grind (arith, ints, to_z-of_z)

pub returns-clause-of_16_bits : goal.returns-clause-of_16_bits
returns-clause-of_16_bits c = grind (arith, ints, to_z-of_z)
