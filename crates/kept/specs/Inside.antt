-- What keeping may take for granted.
use Rattle.std.specs.Prelude.{ℕ, ◌≤◌, ◌≡◌, List, length}

-- lanes of one length, and a place per second in each lane to be written
pub record KeptLanes (states speeds co2 : List ℕ) (speed_places co2_places : ℕ) : Type 0 where
  pub speeds_agree : length speeds ≡ length states
  pub co2_agree : length co2 ≡ length states
  pub speeds_room : length states ≤ speed_places
  pub co2_room : length states ≤ co2_places
