-- `acceleration::write_products` meets its contract: after i seconds the lane begins with their products, and the rest of it is as it
-- was. Assumes nothing.
use native.Mathlib.Omega.{arith}
use mathlib.Core.Path.{◌≡◌, sym}
use lib.ListN.{length}
use Rattle.acceleration.proofs.write_products.Goals.{in-Some, in_default}
use Rattle.acceleration.proofs.Writing.{written_none, written_same, written_more, has_room, all_counted}
use Rattle.acceleration.proofs.write_products.Goals as goal

pub loop-i-init : goal.loop-i-init
loop-i-init c = written_none _ _ _ _

-- there is a place for one product more
pub bounds-lane-count : goal.bounds-lane-count
bounds-lane-count c =
    has_room _ _ _ c.loop-i.invariant (omega arith) (sym c.in-Some.ensures) c.requires.room

pub loop-i-preserved : goal.loop-i-preserved
loop-i-preserved c =
    let a = c.args in
    let l = c.loop-i in
    elim c.match-product_counted.branch [
      | in-Some w ↦ rw (w.lane-is, w.count-is, w.total-is, w.from-total.ensures) (written_more a.bin a.trip.now.states.now a.trip.now.speeds.now l.invariant (omega arith) (sym w.in-Some.ensures) c.requires.room (omega arith))
      | in_default w ↦ rw (w.lane-is, w.count-is, w.total-is) (written_same a.bin a.trip.now.states.now a.trip.now.speeds.now l.invariant (sym w.in_default.ensures))
    ]

pub returns-clause-value : goal.returns-clause-value
returns-clause-value c =
    let a = c.args in
    let end : c.loop-i.i ≡ length a.trip.now.states.now = omega arith in
    rw end at (all_counted a.bin a.trip.now.states.now a.trip.now.speeds.now c.loop-i.invariant)
