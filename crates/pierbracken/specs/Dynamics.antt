-- Demand 2: "D is the next speed minus the previous; before the first and after the last second the speed is 0. A missing second has no D, nor has one beside it."
use Rattle.std.specs.Prelude.{ℕ, ◌≡◌, true, false, ℤ, pos, ◌-ℤ◌, Some, None, Ok}
use Rattle.std.proofs.Common.{sym, ◌∙◌}
use Rattle.second.specs.Lanes.{Lanes}
use Rattle.acceleration.specs.D.{speed_before, speed_after, d_of, has_d, fault_of, acceleration_of, fault_in}
use Rattle.acceleration.proofs.Theorems as acceleration
use Rattle.crossing.specs.Accelerations.{acceleration_across}
use Rattle.crossing.proofs.Theorems as crossing

module _ (lanes : Lanes) (i : ℕ) (accepted : (fault_in (acceleration_of lanes i)).number ≡ 0) where
  passed : (fault_of lanes i).number ≡ 0
  passed = sym (λ k. (acceleration.answer_fault lanes i k).number) ∙ accepted

  -- a second that has D: it is the next speed minus the previous
  pub d_value : has_d lanes.states i ≡ true → acceleration_of lanes i ≡ Ok (Some (pos (speed_after lanes.speeds i) -ℤ pos (speed_before lanes.speeds i)))
  unfolding d_of
  d_value = acceleration.accepted_has lanes i passed

  -- one that has none is answered so
  pub d_none : has_d lanes.states i ≡ false → acceleration_of lanes i ≡ Ok None
  d_none = acceleration.accepted_none lanes i passed

  -- to C the two cross as has_d, and D as rise less fall
  pub d_crosses : (acceleration_across (acceleration_of lanes i)).has_d ≡ has_d lanes.states i
  d_crosses = crossing.d_crosses lanes i passed

pub rise_less_fall : (d : ℤ) → pos (acceleration_across (Ok (Some d))).rise -ℤ pos (acceleration_across (Ok (Some d))).fall ≡ d
rise_less_fall = crossing.rise_less_fall
