-- Nothing else written: what a refused call and an accepted call leave in each lent lane, place by place. Assumes nothing.
use Prim.Native.Nat.{ℕ, ◌+◌, ◌≤◌}
use mathlib.Core.Path.{◌≡◌, refl, sym, ◌∙◌, ap}
use mathlib.Core.List.{List}
use native.Mathlib.Nat.{le_refl}
use native.Mathlib.Omega.{arith}
use lib.ListN.{length, get_or, length-append}
use Rattle.base.specs.declared.Plan.{Plan}
use Rattle.base.specs.Roads.{urban, rural, motorway}
use Rattle.base.specs.Words.{pick}
use Rattle.base.proofs.InFront.{in_front}
use Rattle.kept.proofs.Keeping.{kept_at_most}
use Rattle.sweep.specs.Sweep.{beginning}
use Rattle.sweep.specs.Window.{has_window, window_end}
use Rattle.sweep.proofs.Moves.{begins}
use Rattle.sweep.proofs.Finished.{written, finished_ends, over_exactly}
use Rattle.order.proofs.Laws.{sort-length}
use Rattle.acceleration.specs.Products.{products_of}
use Rattle.base.specs.Refusal.{Fault}
use Rattle.second.specs.Lanes.{Lanes, seconds_in}
use Rattle.windows.proofs.PlanRanges.{plan_ranges}
use Rattle.found.specs.Found.{kept_speed_values, kept_co2_values, ends_in, ends_of}
use Rattle.dynamics.specs.Dynamics.{ranked_products, ranks_of}
use Rattle.dynamics.proofs.Room.{room}
use Rattle.trip.specs.declared.Rooms.{Rooms}
use Rattle.trip.specs.Refusals.{trip_fault}
use Rattle.trip.specs.Trip.{answer_of}
use Rattle.trip.specs.Lent.{Lent, rooms_in, lent_written, lent_left, Leaves}
use Rattle.trip.proofs.Passed.{Accepted, passed, is_accepted_lem, is_refused}
use Rattle.trip.proofs.Answers.{refused_lent, accepted_lent}
use Rattle.trip.proofs.Refused.{answer_fault}

-- lent lanes that are equal lane by lane
pub same_lent : {x y : Lent} → x.kept_speed_values ≡ y.kept_speed_values → x.kept_co2_values ≡ y.kept_co2_values → x.ends ≡ y.ends → x.ranks ≡ y.ranks → x ≡ y
same_lent p q r s i = record { kept_speed_values = p i; kept_co2_values = q i; ends = r i; ranks = s i }

-- ---- the lanes of an accepted trip
module _ {plan : Plan} {trip : Lanes} {rooms : Rooms} (ok : Accepted plan trip rooms) where
  abbrev kept : List ℕ
  kept = kept_co2_values trip.states trip.speeds trip.co2

  positive : 1 ≤ plan.reference
  positive = (plan_ranges plan ok.plan_is_in_range).reference_least

  module _ (lane : List ℕ) (same : rooms.ends ≡ length lane) where
    ends_room : length kept ≤ length lane
    ends_room = omega (arith, kept_at_most trip.states trip.speeds trip.co2 (seconds_in trip), ok.room.for_ends)

    ends_there : (f : ℕ) → get_or (ends_of plan trip.states trip.speeds trip.co2 lane) f 0 ≡ pick (has_window plan.reference kept f) (window_end plan.reference kept f) (get_or lane f 0)
    unfolding ends_in
    ends_there f = finished_ends plan.reference kept positive _ lane ends_room ((over_exactly plan.reference kept positive _).1 (le_refl _)) f

    ends_same : length (ends_of plan trip.states trip.speeds trip.co2 lane) ≡ length lane
    unfolding ends_in
    ends_same = (written plan.reference kept positive _ beginning lane (begins plan.reference kept) ends_room).same_length

ranks_long : (states speeds : List ℕ) → length (ranked_products states speeds) ≡ length (products_of urban states speeds) + length (products_of rural states speeds) + length (products_of motorway states speeds)
ranks_long states speeds = rw (length-append, length-append, sort-length, sort-length, sort-length) refl

-- ---- the call
module _ (plan : Plan) (trip : Lanes) (lent : Lent) where
  number_is : (answer_of plan trip (rooms_in lent)).refusal ≡ (trip_fault plan trip (rooms_in lent)).number
  number_is = ap (λ (f : Fault). f.number) (answer_fault plan trip (rooms_in lent))

  -- a refusal "writes into no lane"
  pub refused_writes_nothing : ((answer_of plan trip (rooms_in lent)).refusal ≡ 0 → ⊥) → lent_left plan trip lent ≡ lent
  refused_writes_nothing bad = refused_lent plan trip lent (is_refused plan trip (rooms_in lent) (λ z. bad (number_is ∙ z)))

  -- "An accepted call changes only the places named for it."
  written_so : Accepted plan trip (rooms_in lent) → Leaves plan trip lent (lent_written plan trip lent)
  unfolding lent_written ranks_of
  written_so ok =
      let few_speeds : length (kept_speed_values trip.states trip.speeds) ≤ length lent.kept_speed_values = omega (arith, kept_at_most trip.states trip.speeds trip.speeds (seconds_in trip), ok.room.for_speeds) in
      let few_co2 : length (kept_co2_values trip.states trip.speeds trip.co2) ≤ length lent.kept_co2_values = omega (arith, kept_at_most trip.states trip.speeds trip.co2 (seconds_in trip), ok.room.for_co2) in
      let few_ranks : length (ranked_products trip.states trip.speeds) ≤ length lent.ranks = omega (arith, ranks_long trip.states trip.speeds, room trip.states trip.speeds, ok.room.for_ranks) in
      record {
        speeds_in_front = in_front (kept_speed_values trip.states trip.speeds) lent.kept_speed_values _ refl few_speeds;
        co2_in_front = in_front (kept_co2_values trip.states trip.speeds trip.co2) lent.kept_co2_values _ refl few_co2;
        window_ends = ends_there ok lent.ends refl;
        ends_long = ends_same ok lent.ends refl;
        ranked = in_front (ranked_products trip.states trip.speeds) lent.ranks _ refl few_ranks;
      }

  pub accepted_writes : (answer_of plan trip (rooms_in lent)).refusal ≡ 0 → Leaves plan trip lent (lent_left plan trip lent)
  accepted_writes z =
      let number : (trip_fault plan trip (rooms_in lent)).number ≡ 0 = sym number_is ∙ z in
      rw (accepted_lent plan trip lent (is_accepted_lem plan trip (rooms_in lent) number)) (written_so (passed plan trip (rooms_in lent) number))
