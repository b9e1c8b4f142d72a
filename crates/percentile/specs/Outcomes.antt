-- When each number of the percentile is given: "Percentile: 2, 12, 6, 3".
use Rattle.std.specs.Prelude.{ℕ, ◌≤◌, ◌<◌, List, length}
use Rattle.base.specs.Refusal.{Fault, accepted, too_many_values, out_of_range, lane_too_short, too_few_values, fault}
use Rattle.base.specs.Limits.{trip_limit}
use Rattle.percentile.specs.Percentile.{fewest, first_bad_product}

module _ (values : List ℕ) (places : ℕ) where
  -- what may be refused, each with its number, its place and what holds then, in the order 2, 12, 6, 3
  pub data Outcome : Fault → Type 0 where
    if_too_many : trip_limit < length values → Outcome (fault too_many_values 0)
    too_few : length values ≤ trip_limit → length values < fewest → Outcome (fault too_few_values 0)
    if_too_short : length values ≤ trip_limit → fewest ≤ length values → places < length values → Outcome (fault lane_too_short 0)
    if_out_of_range : length values ≤ trip_limit → fewest ≤ length values → length values ≤ places → first_bad_product values < length values → Outcome (fault out_of_range (first_bad_product values))
    fine : length values ≤ trip_limit → fewest ≤ length values → length values ≤ places → length values ≤ first_bad_product values → Outcome (fault accepted 0)
