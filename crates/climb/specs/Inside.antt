-- What the steps inside may take for granted.
use Rattle.std.specs.Prelude.{ℕ, ◌+◌, ◌*◌, ◌≤◌, ◌<◌, ◌≡◌, true, IfSome, List, ℤ, pos, length, get_or}
use Rattle.base.specs.Limits.{trip_limit, altitude_below_zero, altitude_most}
use Rattle.base.specs.Second.{altitude_in_range}
use Rattle.second.specs.Row.{has_values}
use Rattle.climb.specs.Corrected.{Altitude}

-- an altitude is in range, where there is one
abbrev pub Within : Altitude → Type 0
Within altitude = IfSome altitude (λ z. altitude_in_range z ≡ true)

-- more than any two altitudes in range differ by
abbrev pub step_most : ℕ
step_most = altitude_below_zero + 1 + altitude_most

-- no trip climbs more
abbrev pub climb_most : ℕ
climb_most = trip_limit * step_most

-- states and altitudes of one length, every altitude in its range
pub record AltitudeLanes (states : List ℕ) (altitudes : List ℤ) : Type 0 where
  pub altitudes_agree : length altitudes ≡ length states
  pub in_range : (i : ℕ) → i < length states → has_values (get_or states i 0) ≡ true → altitude_in_range (get_or altitudes i (pos 0)) ≡ true

-- what the climb is asked of: a speed for each second, and no more seconds than a trip's
pub record ClimbLanes (states speeds : List ℕ) (altitudes : List ℤ) : Type 0 where
  pub recorded : AltitudeLanes states altitudes
  pub speeds_agree : length speeds ≡ length states
  pub few : length states ≤ trip_limit
