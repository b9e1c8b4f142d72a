-- What the steps inside may take for granted.
use Rattle.std.specs.Prelude.{ℕ, ◌≤◌, List, length}
use Rattle.base.specs.Limits.{trip_limit}
use Rattle.order.specs.Order.{Ascending}
use Rattle.percentile.specs.Percentile.{fewest}

-- what Q is asked of: ranked products, enough of them, and no more than a trip's
pub record Ranked (ranked : List ℕ) : Type 0 where
  pub enough : fewest ≤ length ranked
  pub few : length ranked ≤ trip_limit
  pub ascending : Ascending ranked
