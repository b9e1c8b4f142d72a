-- What the steps inside may take for granted.
use Rattle.std.specs.Prelude.{ℕ, ◌≤◌, ◌≡◌, List, length}
use Rattle.base.specs.Limits.{trip_limit}

-- what the dynamics are asked of: lanes of one length, no more than a trip's, and "a place per second" for the ranks
pub record DynamicsLanes (states speeds ranks : List ℕ) : Type 0 where
  pub agree : length speeds ≡ length states
  pub few : length states ≤ trip_limit
  pub room : length states ≤ length ranks
