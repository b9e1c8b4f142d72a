-- When each number of the sweep is given: "Sweep: 5 (its reference), 2, 6, 3, 13".
use Rattle.std.specs.Prelude.{ℕ, ◌≤◌, ◌<◌, ◌≡◌, true, false, List, length}
use Rattle.base.specs.Limits.{trip_limit}
use Rattle.base.specs.Plan.{reference_in_range}
use Rattle.base.specs.Refusal.{accepted, plan_out_of_range, too_many_values, lane_too_short, out_of_range, state_not_reached}
use Rattle.sweep.specs.declared.SweepState.{SweepState}
use Rattle.sweep.specs.Sweep.{is_reached, first_out_of_range}

module _ (reference : ℕ) (co2 : List ℕ) (room : ℕ) (s : SweepState) where
  -- a call that is accepted
  pub record Accepted : Type 0 where
    pub reference_is_in_range : reference_in_range reference ≡ true
    pub few : length co2 ≤ trip_limit
    pub places : length co2 ≤ room
    pub in_range : length co2 ≤ first_out_of_range co2
    pub reached : is_reached reference co2 s ≡ true

  -- each number with what holds then: 5, 2, 6, 3, 13, and 0
  pub data Outcome : ℕ → Type 0 where
    bad_reference : reference_in_range reference ≡ false → Outcome plan_out_of_range
    if_too_many : reference_in_range reference ≡ true → trip_limit < length co2 → Outcome too_many_values
    if_too_short : reference_in_range reference ≡ true → length co2 ≤ trip_limit → room < length co2 → Outcome lane_too_short
    bad_mass : reference_in_range reference ≡ true → length co2 ≤ trip_limit → length co2 ≤ room → first_out_of_range co2 < length co2 → Outcome out_of_range
    never_reached : reference_in_range reference ≡ true → length co2 ≤ trip_limit → length co2 ≤ room → length co2 ≤ first_out_of_range co2 → is_reached reference co2 s ≡ false → Outcome state_not_reached
    fine : Accepted → Outcome accepted
