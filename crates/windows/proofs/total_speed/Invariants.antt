-- `windows::total_speed` meets its contract: after i steps the first i speeds of each half are added (`Halves` of the sweep's sums). Assumes nothing.
use Rattle.sweep.proofs.Prefix.{Halves}
use Rattle.windows.proofs.total_speed.Given as goal

abbrev pub invariant-loop-i : goal.invariant-loop-i
invariant-loop-i l = Halves l.speeds l.half l.i l.total
