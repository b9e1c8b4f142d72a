-- `sweep::all_in_range` meets its contract: it is fine so far exactly where the first mass out of range is not passed. Assumes nothing.
use mathlib.Core.Path.{◌≡◌}
use lib.Dec.{leb}
use Rattle.sweep.specs.Sweep.{first_out_of_range}
use Rattle.sweep.proofs.all_in_range.Given as goal

abbrev pub invariant-loop-mass : goal.invariant-loop-mass
invariant-loop-mass l = l.fine ≡ leb l.mass-index (first_out_of_range l.co2)
