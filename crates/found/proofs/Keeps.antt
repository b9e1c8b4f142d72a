-- The kept lanes of a trip that can be searched can be swept, and judged once they are. Assumes nothing.
use Prim.Native.Nat.{ℕ, ◌≤◌, ◌<◌}
use mathlib.Core.Path.{◌≡◌, refl, sym, ◌∙◌}
use mathlib.Core.Bool.{and-eq-true_iff}
use mathlib.Core.List.{List}
use native.Mathlib.Omega.{arith}
use borrow.Author.Tests.{le-leb, leb-true}
use lib.Dec.{leb, eqb}
use lib.ListN.{length, get_or, take, length-append, length-take}
use lib.Seq.{take_at, get_or-take}
use Rattle.base.specs.declared.Plan.{Plan}
use Rattle.base.specs.Limits.{speed_most, co2_most, reference_most}
use Rattle.base.specs.Second.{measured}
use Rattle.base.specs.Words.{with_front}
use Rattle.kept.specs.Kept.{kept_speed_least}
use Rattle.kept.proofs.Keeping.{kept_each, kept_both, kept_at_most}
use Rattle.sweep.specs.Sweep.{beginning, ends_after}
use Rattle.sweep.specs.Window.{windows}
use Rattle.sweep.proofs.Moves.{begins}
use Rattle.sweep.proofs.Refusals as refusals
use Rattle.sweep.proofs.Finished.{written}
use Rattle.sweep.proofs.Windows.{windows_most}
use Rattle.windows.specs.Inside.{SweptLanes}
use Rattle.windows.proofs.PlanRanges.{plan_ranges}
use Rattle.found.specs.Found.{moves_to_end, kept_speed_values, kept_co2_values}
use Rattle.found.specs.Inside.{Findable, Kept, Sweepable}
use Rattle.found.proofs.Ending.{none_out, at_end}

-- the front of a lane that begins with these values
pub front_is : (front lane : List ℕ) (n : ℕ) → n ≡ length front → take n (with_front front lane) ≡ front
front_is front lane n e = take_at front _ n (sym e)

pub front_long : (front lane : List ℕ) (n : ℕ) → n ≡ length front → n ≤ length (with_front front lane)
front_long front lane n e = rw length-append (omega arith)

-- what a trip keeps
pub keeps : {plan : Plan} {states speeds co2 : List ℕ} {a b c : ℕ} → Findable plan states speeds co2 a b c → Kept plan (kept_speed_values states speeds) (kept_co2_values states speeds co2) c
keeps {plan} {states} {speeds} {co2} ok =
    record {
      plan_is_in_range = ok.plan_is_in_range;
      same_length = kept_both states speeds speeds co2 (length states);
      few = omega (arith, kept_at_most states speeds co2 (length states), ok.few);
      places = omega (arith, kept_at_most states speeds co2 (length states), ok.ends_room);
      each_moves = kept_each states speeds speeds (λ x. kept_speed_least ≤ x) (length states) (λ i h q. leb-true kept_speed_least (get_or speeds i 0) ((and-eq-true_iff (eqb (get_or states i 0) measured) (leb kept_speed_least (get_or speeds i 0))).0 q).1);
      speeds_in_range = kept_each states speeds speeds (λ x. x ≤ speed_most) (length states) ok.speeds_in_range;
      co2_is_in_range = kept_each states speeds co2 (λ x. x ≤ co2_most) (length states) ok.co2_is_in_range;
    }

module _ {plan : Plan} {speeds co2 : List ℕ} {room : ℕ} (kept : Kept plan speeds co2 room) where
  -- the kept masses can be swept
  pub sweepable : Sweepable plan.reference co2 room
  sweepable =
      let ranges = plan_ranges plan kept.plan_is_in_range in
      record {
        reference_is_in_range = rw (le-leb 1 plan.reference ranges.reference_least, le-leb plan.reference reference_most ranges.reference_most_lem) refl;
        few = kept.few;
        places = kept.places;
        in_range = kept.co2_is_in_range;
      }

  pub windows_few : windows plan.reference co2 ≤ length co2
  windows_few = windows_most plan.reference co2

  -- once they are swept the windows can be judged, whose ends are the front of the lane
  pub swept : (before after : List ℕ) (count : ℕ) → room ≡ length before → after ≡ ends_after plan.reference co2 (moves_to_end plan.reference co2) beginning before → count ≡ windows plan.reference co2 → SweptLanes plan speeds co2 (take count after)
  swept before after count same is counted =
      let positive = (plan_ranges plan kept.plan_is_in_range).reference_least in
      let places : length co2 ≤ length before = omega (arith, kept.places) in
      let w = written plan.reference co2 positive (moves_to_end plan.reference co2) beginning before (begins plan.reference co2) places in
      let last = at_end plan.reference co2 room sweepable in
      let few : count ≤ length after = rw is (omega (arith, counted, windows_few, w.same_length, places)) in
      let long : length (take count after) ≡ count = rw length-take (omega arith) in
      record {
        plan_is_in_range = kept.plan_is_in_range;
        same_length = kept.same_length;
        each_moves = kept.each_moves;
        speeds_are_kept = record { few = omega (arith, kept.same_length, kept.few); each = kept.speeds_in_range };
        masses_fit = (refusals.measured co2 kept.few (omega (arith, none_out plan.reference co2 room sweepable))).light;
        all = long ∙ counted;
        ended = λ f (h : f < length (take count after)). let below : f < count = omega (arith, long) in rw (get_or-take count after f 0 below, is) (w.ends f (omega arith) (omega (arith, counted, last.dropped)));
      }
