-- `mass::reading_in_range` meets its contract: each case tests the definition's range; the code's f64 numbers are the definition's. Assumes nothing.
use mathlib.Core.Logic.{inl, inr}
use lib.Ieee.{of_bits, of_int}
use Rattle.mass.specs.Mass.{reading_in_range}
use Rattle.mass.proofs.reading_in_range.Goals as goal

pub returns-in-WetPpm : goal.returns-in-WetPpm
unfolding reading_in_range of_bits of_int
returns-in-WetPpm c =
    elim c.in-WetPpm.is [ inl wet ↦ rw (c.zero_to-in-WetPpm.ensures, wet) | inr dry ↦ rw (c.zero_to-in-WetPpm.ensures, dry) ]

pub returns-in-WetPercent : goal.returns-in-WetPercent
unfolding reading_in_range of_bits of_int
returns-in-WetPercent c =
    elim c.in-WetPercent.is [ inl wet ↦ rw (c.zero_to.ensures, wet) | inr dry ↦ rw (c.zero_to.ensures, dry) ]
