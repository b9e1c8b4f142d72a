-- Demand 2: two laboratories read one trip alike: an accepted trip's answer is that of the rules, and it is valid exactly when no reason holds.
use Rattle.std.specs.Prelude.{◌≡◌, true, ◌↔◌}
use Rattle.base.specs.declared.Plan.{Plan}
use Rattle.second.specs.Lanes.{Lanes}
use Rattle.reasons.specs.Reasons.{Reason}
use Rattle.verdict.specs.Verdict.{bit_set, bit_number, mask_of, has_any}
use Rattle.trip.specs.declared.Rooms.{Rooms}
use Rattle.trip.specs.Trip.{evaluated, answer_of}
use Rattle.trip.specs.Rules.{Holds}
use Rattle.trip.proofs.Theorems as trip
use Rattle.trip.proofs.Verdict as verdict

-- `Holds reason` is the rule of a reason, in the paper's words on the trip's own lanes.
module _ (plan : Plan) (lanes : Lanes) (rooms : Rooms) (accepted : (answer_of plan lanes rooms).refusal ≡ 0) where
  -- every figure is that of the rules (`evaluated`), whatever the lent lanes held
  pub read_alike : answer_of plan lanes rooms ≡ evaluated plan lanes
  read_alike = trip.accepted_evaluated plan lanes rooms accepted

  -- "a bit per reason": each bit is set exactly when its rule holds
  pub each_bit : (reason : Reason) → (bit_set (bit_number reason) (evaluated plan lanes).verdict ≡ true) ↔ Holds plan lanes reason
  each_bit reason = verdict.bit_exactly plan lanes (trip.accepted_passed plan lanes rooms accepted) reason

  -- "Masks set and test each reason": the mask of a reason finds it exactly when its rule holds
  pub each_mask : (reason : Reason) → (has_any (evaluated plan lanes).verdict (mask_of reason) ≡ true) ↔ Holds plan lanes reason
  each_mask reason = verdict.mask_exactly plan lanes (trip.accepted_passed plan lanes rooms accepted) reason

  -- "zero meaning valid": exactly when no rule holds
  pub valid_exactly : ((evaluated plan lanes).verdict ≡ 0) ↔ ((reason : Reason) → Holds plan lanes reason → ⊥)
  valid_exactly = verdict.valid_on_lanes plan lanes (trip.accepted_passed plan lanes rooms accepted)
