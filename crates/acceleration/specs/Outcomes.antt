-- When each number of D of one second is given: "(1, 2, 3, 4)".
use Rattle.std.specs.Prelude.{ℕ, ◌≤◌, ◌<◌, ◌⊎◌}
use Rattle.base.specs.Refusal.{Fault, accepted, lanes_differ, too_many_values, out_of_range, no_second, fault}
use Rattle.base.specs.Limits.{trip_limit}
use Rattle.second.specs.Lanes.{Lanes, seconds_in}
use Rattle.second.specs.Facts.{SameLengths, FirstBadAt, AllInRange, NoSecond, SomeSecond}

module _ (trip : Lanes) (i : ℕ) where
  abbrev n : ℕ
  n = seconds_in trip

  -- what may be refused, each with its number, its place and what holds then, in the order 1, 2, 3, 4
  pub data Outcome : Fault → Type 0 where
    if_lanes_differ : (SameLengths trip → ⊥) → Outcome (fault lanes_differ 0)
    if_too_many : SameLengths trip → trip_limit < n → Outcome (fault too_many_values 0)
    if_out_of_range : SameLengths trip → n ≤ trip_limit → (bad : ℕ) → FirstBadAt trip bad → Outcome (fault out_of_range bad)
    if_no_second : SameLengths trip → n ≤ trip_limit → AllInRange trip → NoSecond trip ⊎ (n ≤ i) → Outcome (fault no_second 0)
    fine : SameLengths trip → n ≤ trip_limit → AllInRange trip → SomeSecond trip → i < n → Outcome (fault accepted 0)
