-- What is refused of a trip: "Trip: 5, 1, 2, 6, 3, 4".
use Rattle.std.specs.Prelude.{ℕ, Bool, not, ◌||◌, ltb, eqb}
use Rattle.base.specs.declared.Plan.{Plan}
use Rattle.base.specs.Plan.{plan_in_range}
use Rattle.base.specs.Refusal.{Fault, accepted, lanes_differ, too_many_values, out_of_range, no_second, plan_out_of_range, lane_too_short, fault}
use Rattle.base.specs.Second.{too_many}
use Rattle.base.specs.Words.{pick}
use Rattle.second.specs.Lanes.{Lanes, seconds_in, lanes_agree, first_bad_second, none_has_values}
use Rattle.trip.specs.declared.Rooms.{Rooms}

-- "each needing a place per second"
unfoldable pub too_short : Rooms → ℕ → Bool
too_short rooms n =
    ltb rooms.speeds n || ltb rooms.co2 n || ltb rooms.ends n || ltb rooms.ranks n

-- the number of refusal, 0 where there is none, and its place: "3: index .. of the first bad second ..; otherwise 0"
unfoldable pub trip_fault : Plan → Lanes → Rooms → Fault
trip_fault plan trip rooms =
    pick (not (plan_in_range plan)) (fault plan_out_of_range 0)
    (pick (not (lanes_agree trip)) (fault lanes_differ 0)
    (pick (too_many (seconds_in trip)) (fault too_many_values 0)
    (pick (too_short rooms (seconds_in trip)) (fault lane_too_short 0)
    (pick (ltb (first_bad_second trip) (seconds_in trip)) (fault out_of_range (first_bad_second trip))
    (pick (none_has_values trip.states) (fault no_second 0)
    (fault accepted 0))))))

-- a trip that is not refused
unfoldable pub is_accepted : Plan → Lanes → Rooms → Bool
is_accepted plan trip rooms = eqb (trip_fault plan trip rooms).number accepted
