-- `sweep::total` meets its contract: after i steps the first i masses of each half are added (`Halves` of `proofs/Prefix.antt`). Assumes nothing.
use Rattle.sweep.proofs.Prefix.{Halves}
use Rattle.sweep.proofs.total.Given as goal

abbrev pub invariant-loop-i : goal.invariant-loop-i
invariant-loop-i l = Halves l.co2 l.half l.i l.mass
