-- `kept::keep` meets its contract: after i seconds each lane begins with the values of those kept, and the rest of it is as it was.
-- Assumes nothing.
use Rattle.second.specs.Lanes.{lanes_in}
use Rattle.kept.proofs.Keeping.{Front}
use Rattle.kept.proofs.keep.Given as goal

abbrev pub invariant-loop-i : goal.invariant-loop-i
invariant-loop-i l =
    let lanes = lanes_in l.trip in
    Front lanes.states lanes.speeds lanes.speeds l.initial.kept_speeds l.i l.count l.kept_speeds
    × Front lanes.states lanes.speeds lanes.co2 l.initial.kept_co2 l.i l.count l.kept_co2
