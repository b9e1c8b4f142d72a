-- When each number of a trip is given: "Trip: 5, 1, 2, 6, 3, 4".
use Rattle.std.specs.Prelude.{ℕ, ◌≤◌, ◌<◌, ◌≡◌, true, false, ◌⊎◌}
use Rattle.base.specs.Refusal.{Fault, accepted, lanes_differ, too_many_values, out_of_range, no_second, plan_out_of_range, lane_too_short, fault}
use Rattle.base.specs.declared.Plan.{Plan}
use Rattle.base.specs.Limits.{trip_limit}
use Rattle.base.specs.Plan.{plan_in_range}
use Rattle.second.specs.Lanes.{Lanes, seconds_in}
use Rattle.second.specs.Facts.{SameLengths, FirstBadAt, AllInRange, NoSecond, SomeSecond}
use Rattle.trip.specs.declared.Rooms.{Rooms}

-- a place per second in each lent lane
pub record Places (rooms : Rooms) (n : ℕ) : Type 0 where
  pub for_speeds : n ≤ rooms.speeds
  pub for_co2 : n ≤ rooms.co2
  pub for_ends : n ≤ rooms.ends
  pub for_ranks : n ≤ rooms.ranks

-- "a lane to be written is too short": a lent lane has no place for one of n seconds
abbrev pub TooShort : Rooms → ℕ → Type 0
TooShort rooms n = (((rooms.speeds < n) ⊎ (rooms.co2 < n)) ⊎ (rooms.ends < n)) ⊎ (rooms.ranks < n)

-- what is given, in the order 5, 1, 2, 6, 3, 4: the number and the place, with the conditions
pub data Given (plan : Plan) (trip : Lanes) (rooms : Rooms) : Fault → Type 0 where
  if_plan_out_of_range : plan_in_range plan ≡ false → Given plan trip rooms (fault plan_out_of_range 0)
  if_lanes_differ : plan_in_range plan ≡ true → (SameLengths trip → ⊥) → Given plan trip rooms (fault lanes_differ 0)
  if_too_many : plan_in_range plan ≡ true → SameLengths trip → trip_limit < seconds_in trip → Given plan trip rooms (fault too_many_values 0)
  if_lane_too_short : plan_in_range plan ≡ true → SameLengths trip → seconds_in trip ≤ trip_limit → TooShort rooms (seconds_in trip) → Given plan trip rooms (fault lane_too_short 0)
  if_out_of_range : plan_in_range plan ≡ true → SameLengths trip → seconds_in trip ≤ trip_limit → Places rooms (seconds_in trip) → (i : ℕ) → FirstBadAt trip i → Given plan trip rooms (fault out_of_range i)
  if_no_second : plan_in_range plan ≡ true → SameLengths trip → seconds_in trip ≤ trip_limit → Places rooms (seconds_in trip) → AllInRange trip → NoSecond trip → Given plan trip rooms (fault no_second 0)
  none : plan_in_range plan ≡ true → SameLengths trip → seconds_in trip ≤ trip_limit → Places rooms (seconds_in trip) → AllInRange trip → SomeSecond trip → Given plan trip rooms (fault accepted 0)
