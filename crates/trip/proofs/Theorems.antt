-- What the contract of the evaluation amounts to: accepted, refused, and the sums. Assumes nothing.
use Prim.Native.Nat.{◌+◌}
use mathlib.Core.Path.{◌≡◌, sym, ◌∙◌, ap}
use mathlib.Core.Bool.{not, ◌||◌}
use lib.ListN.{get_or}
use Rattle.base.specs.declared.Plan.{Plan}
use Rattle.base.specs.Second.{state_known}
use Rattle.second.specs.Row.{has_values, values_in_range, row_in_range}
use Rattle.second.specs.Lanes.{Lanes, row_at, second_in_range}
use Rattle.base.proofs.Tests.{and_left}
use Rattle.tally.specs.declared.Tally.{Tally}
use Rattle.tally.specs.Counts.{counts_after}
use Rattle.tally.proofs.Tallies.{bins_add_up, seconds_add_up}
use Rattle.tally.specs.Inside.{added, bin_tallies_after}
use Rattle.bins.specs.Bins.{bin_of, bins_of}
use Rattle.trip.specs.declared.Rooms.{Rooms}
use Rattle.base.specs.Refusal.{Fault, fault}
use Rattle.trip.specs.Refusals.{trip_fault}
use Rattle.trip.specs.Trip.{figures_from, answer_from, evaluated, answer_of, refused}
use Rattle.trip.specs.Sums.{SumsUp}
use Rattle.trip.proofs.Passed.{Accepted, passed, is_accepted_lem, is_refused}
use Rattle.trip.proofs.Answers.{refused_answer_lem, accepted_answer}
use Rattle.trip.proofs.Refused.{answer_fault}

-- ---- accepted: number 0 says that every test passed, and the answer is that of the rules
module _ (plan : Plan) (trip : Lanes) (rooms : Rooms) where
  number_zero : (answer_of plan trip rooms).refusal ≡ 0 → (trip_fault plan trip rooms).number ≡ 0
  number_zero z = sym (ap (λ (f : Fault). f.number) (answer_fault plan trip rooms)) ∙ z

  pub accepted_passed : (answer_of plan trip rooms).refusal ≡ 0 → Accepted plan trip rooms
  accepted_passed z = passed plan trip rooms (number_zero z)

  pub accepted_evaluated : (answer_of plan trip rooms).refusal ≡ 0 → answer_of plan trip rooms ≡ evaluated plan trip
  accepted_evaluated z = accepted_answer plan trip rooms (is_accepted_lem plan trip rooms (number_zero z))

  -- a refusal has all other results zero
  pub refused_zeros : ((answer_of plan trip rooms).refusal ≡ 0 → ⊥) → answer_of plan trip rooms ≡ refused (fault (answer_of plan trip rooms).refusal (answer_of plan trip rooms).place)
  refused_zeros bad =
      let same = answer_fault plan trip rooms in
      refused_answer_lem plan trip rooms (is_refused plan trip rooms (λ z. bad (ap (λ (f : Fault). f.number) same ∙ z))) ∙ ap refused (sym same)

-- ---- sums
module _ (plan : Plan) (trip : Lanes) where
  pub sums_up : SumsUp plan trip
  unfolding answer_from bins_of bin_of added bin_tallies_after
  sums_up =
      let all = bins_add_up trip.states trip.speeds trip.co2 trip.nox in
      record {
        seconds = ap (λ (t : Tally). t.seconds) all;
        distance = ap (λ (t : Tally). t.distance) all;
        co2 = ap (λ (t : Tally). t.co2) all;
        nox = ap (λ (t : Tally). t.nox) all;
      }

  -- "their seconds to n less the missing"
  pub seconds_less_missing : {rooms : Rooms} → Accepted plan trip rooms → (evaluated plan trip).total.seconds + (evaluated plan trip).missing ≡ (evaluated plan trip).seconds
  unfolding answer_from figures_from bins_of counts_after second_in_range row_in_range
  seconds_less_missing ok =
      seconds_add_up trip.states trip.speeds trip.co2 trip.nox
      (λ i h. and_left (state_known (get_or trip.states i 0)) (not (has_values (get_or trip.states i 0)) || values_in_range (row_at trip i)) (ok.in_range i h))
