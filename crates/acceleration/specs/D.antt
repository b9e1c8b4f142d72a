-- D of a second (Appendix 7a). Seconds are counted from 0.
use Rattle.std.specs.Prelude.{ℕ, zero, suc, ◌+◌, Bool, true, not, ◌&&◌, ◌||◌, List, leb, ltb, eqb, Option, Some, None, Result, Ok, Err, ℤ, pos, ◌-ℤ◌, get_or}
use Rattle.base.specs.Refusal.{Fault, accepted, lanes_differ, too_many_values, out_of_range, no_second, fault}
use Rattle.base.specs.Second.{measured, too_many}
use Rattle.base.specs.Words.{pick}
use Rattle.second.specs.Row.{has_values}
use Rattle.second.specs.Lanes.{Lanes, seconds_in, lanes_agree, first_bad_second, none_has_values}

-- "before the first and after the last second the speed is 0"
unfoldable pub speed_before : List ℕ → ℕ → ℕ
speed_before speeds zero = 0
speed_before speeds (suc i) = get_or speeds i 0

unfoldable pub speed_after : List ℕ → ℕ → ℕ
speed_after speeds i = get_or speeds (i + 1) 0

-- "D is the next speed minus the previous"
unfoldable pub d_of : List ℕ → ℕ → ℤ
d_of speeds i = pos (speed_after speeds i) -ℤ pos (speed_before speeds i)

-- whether the second before, or after, is not missing; outside the trip none is
unfoldable pub has_before : List ℕ → ℕ → Bool
has_before states zero = true
has_before states (suc i) = has_values (get_or states i 0)

unfoldable pub has_after : List ℕ → ℕ → Bool
has_after states i = has_values (get_or states (i + 1) measured)

-- "A missing second has no D, nor has one beside it."
unfoldable pub has_d : List ℕ → ℕ → Bool
has_d states i = has_values (get_or states i 0) && has_before states i && has_after states i

-- refusals "1, 2, 3, 4": the number and the place
unfoldable pub fault_of : Lanes → ℕ → Fault
fault_of trip i =
    pick (not (lanes_agree trip)) (fault lanes_differ 0)
    (pick (too_many (seconds_in trip)) (fault too_many_values 0)
    (pick (ltb (first_bad_second trip) (seconds_in trip)) (fault out_of_range (first_bad_second trip))
    (pick (none_has_values trip.states || leb (seconds_in trip) i) (fault no_second 0)
    (fault accepted 0))))

-- "the D of one second of a trip's lanes by index from 0, or that it has none"
unfoldable pub acceleration_of : Lanes → ℕ → Result (Option ℤ) Fault
acceleration_of trip i =
    pick (eqb (fault_of trip i).number accepted) (Ok (pick (has_d trip.states i) (Some (d_of trip.speeds i)) None)) (Err (fault_of trip i))

-- the number of refusal and the place of an answer
unfoldable pub fault_in : Result (Option ℤ) Fault → Fault
fault_in (Err given) = given
fault_in (Ok found) = fault accepted 0
