-- What a plan in range is: each of its values is. Assumes nothing.
use Prim.Native.Nat.{◌≤◌}
use mathlib.Core.Path.{◌≡◌}
use mathlib.Core.Bool.{true}
use lib.Dec.{leb}
use borrow.Author.Tests.{leb-true}
use Rattle.base.specs.declared.Plan.{Plan}
use Rattle.base.specs.Limits.{reference_most, curve_most, tolerance_most}
use Rattle.base.specs.Plan.{reference_in_range, curve_in_range, tolerance_in_range, plan_in_range}
use Rattle.base.proofs.Tests.{and_left, and_right, eight_hold}

pub record PlanRanges (plan : Plan) : Type 0 where
  pub reference_least : 1 ≤ plan.reference
  pub reference_most_lem : plan.reference ≤ reference_most
  pub e1_most : plan.e1 ≤ curve_most
  pub e2_most : plan.e2 ≤ curve_most
  pub e3_most : plan.e3 ≤ curve_most
  pub lower_most : plan.lower ≤ tolerance_most

pub plan_ranges : (plan : Plan) → plan_in_range plan ≡ true → PlanRanges plan
unfolding plan_in_range
plan_ranges plan h =
    let each = eight_hold (reference_in_range plan.reference) (curve_in_range plan.e1) (curve_in_range plan.e2) (curve_in_range plan.e3) (tolerance_in_range plan.lower) (tolerance_in_range plan.urban) (tolerance_in_range plan.rural) (tolerance_in_range plan.motorway) h in
    record {
      reference_least = leb-true 1 plan.reference (and_left (leb 1 plan.reference) (leb plan.reference reference_most) each.first);
      reference_most_lem = leb-true plan.reference reference_most (and_right (leb 1 plan.reference) (leb plan.reference reference_most) each.first);
      e1_most = leb-true plan.e1 curve_most (and_right (leb 1 plan.e1) (leb plan.e1 curve_most) each.second);
      e2_most = leb-true plan.e2 curve_most (and_right (leb 1 plan.e2) (leb plan.e2 curve_most) each.third);
      e3_most = leb-true plan.e3 curve_most (and_right (leb 1 plan.e3) (leb plan.e3 curve_most) each.fourth);
      lower_most = leb-true plan.lower tolerance_most each.fifth;
    }
