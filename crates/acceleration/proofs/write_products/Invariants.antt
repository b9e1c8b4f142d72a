-- After i seconds the lane begins with their products, and the rest of it is as it was. Assumes nothing.
use Rattle.acceleration.proofs.Writing.{Written}
use Rattle.acceleration.proofs.write_products.Given as goal

abbrev pub invariant-loop-i : goal.invariant-loop-i
invariant-loop-i l = Written l.bin l.trip.states.now l.trip.speeds.now l.initial.lane l.i l.lane l.count l.total
