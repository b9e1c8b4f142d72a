-- `dynamics::bin_dynamics` meets its contract: the products are written to the front of the lane and ranked there. Assumes nothing.
use native.Mathlib.Omega.{arith}
use Rattle.base.specs.Roads.{road_number}
use Rattle.dynamics.proofs.Bin.{count_fits, count_few, figures_are, lane_is}
use Rattle.dynamics.proofs.bin_dynamics.Goals as goal

pub rank_first-q-requires : goal.rank_first-q-requires
rank_first-q-requires c =
    let trip = c.args.trip.now in
    let value = rw c.index.ensures.number at c.write_products-products.ensures.value in
    let lane_after = rw c.index.ensures.number at c.write_products-products.ensures.lane_after in
    (count_fits (road_number c.args.bin) trip.states.now trip.speeds.now c.args.lane.now c.requires.room value lane_after, count_few (road_number c.args.bin) trip.states.now trip.speeds.now c.args.lane.now c.requires.room value lane_after c.requires.speed_lanes.few)

pub overflow_cast-result : goal.overflow_cast-result
overflow_cast-result c =
    let trip = c.args.trip.now in
    let value = rw c.index.ensures.number at c.write_products-products.ensures.value in
    let lane_after = rw c.index.ensures.number at c.write_products-products.ensures.lane_after in
    omega (arith, count_few (road_number c.args.bin) trip.states.now trip.speeds.now c.args.lane.now c.requires.room value lane_after c.requires.speed_lanes.few)

pub returns : goal.returns
returns c =
    let trip = c.args.trip.now in
    let value = rw c.index.ensures.number at c.write_products-products.ensures.value in
    let lane_after = rw c.index.ensures.number at c.write_products-products.ensures.lane_after in
    let rf = c.rank_first-q.ensures in
    (figures_are (road_number c.args.bin) trip.states.now trip.speeds.now c.args.lane.now c.requires.room value lane_after rf.value, lane_is (road_number c.args.bin) trip.states.now trip.speeds.now c.args.lane.now c.requires.room value lane_after rf.lane_after)
