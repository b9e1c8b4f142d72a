-- What the steps may take for granted, once the trip is accepted.
use Rattle.std.specs.Prelude.{ℕ, ◌≤◌, ◌<◌, ◌≡◌, true, List, length, get_or}
use Rattle.base.specs.declared.Plan.{Plan}
use Rattle.base.specs.Limits.{trip_limit, speed_most, co2_most}
use Rattle.base.specs.Plan.{reference_in_range, plan_in_range}
use Rattle.kept.specs.Kept.{kept_speed_least, second_kept}

-- a trip whose windows can be found: lanes of one length, a place per second in each lane to be written, kept values in range
pub record Findable (plan : Plan) (states speeds co2 : List ℕ) (speed_places co2_places end_places : ℕ) : Type 0 where
  pub plan_is_in_range : plan_in_range plan ≡ true
  pub speeds_agree : length speeds ≡ length states
  pub co2_agree : length co2 ≡ length states
  pub few : length states ≤ trip_limit
  pub speeds_room : length states ≤ speed_places
  pub co2_room : length states ≤ co2_places
  pub ends_room : length states ≤ end_places
  pub speeds_in_range : (i : ℕ) → i < length states → second_kept (get_or states i 0) (get_or speeds i 0) ≡ true → get_or speeds i 0 ≤ speed_most
  pub co2_is_in_range : (i : ℕ) → i < length states → second_kept (get_or states i 0) (get_or speeds i 0) ≡ true → get_or co2 i 0 ≤ co2_most

-- kept seconds: at most a trip's, with values in range, and a place for each end
pub record Kept (plan : Plan) (speeds co2 : List ℕ) (room : ℕ) : Type 0 where
  pub plan_is_in_range : plan_in_range plan ≡ true
  pub same_length : length speeds ≡ length co2
  pub few : length co2 ≤ trip_limit
  pub places : length co2 ≤ room
  pub each_moves : (i : ℕ) → i < length speeds → kept_speed_least ≤ get_or speeds i 0
  pub speeds_in_range : (i : ℕ) → i < length speeds → get_or speeds i 0 ≤ speed_most
  pub co2_is_in_range : (i : ℕ) → i < length co2 → get_or co2 i 0 ≤ co2_most

-- kept masses that can be swept
pub record Sweepable (reference : ℕ) (co2 : List ℕ) (room : ℕ) : Type 0 where
  pub reference_is_in_range : reference_in_range reference ≡ true
  pub few : length co2 ≤ trip_limit
  pub places : length co2 ≤ room
  pub in_range : (i : ℕ) → i < length co2 → get_or co2 i 0 ≤ co2_most
