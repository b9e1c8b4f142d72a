-- Demand 2: "Those four add up over the bins to the trip's, their seconds to n less the missing."
use Rattle.std.specs.Prelude.{ℕ, ◌+◌, ◌≡◌, List, [], ◌∷◌}
use Rattle.base.specs.declared.Plan.{Plan}
use Rattle.base.specs.Roads.{urban, rural, motorway}
use Rattle.second.specs.Lanes.{Lanes}
use Rattle.sweep.specs.Window.{windows}
use Rattle.windows.specs.Figure.{unclassed}
use Rattle.windows.specs.Counts.{class_count}
use Rattle.windows.proofs.Counts as counts
use Rattle.order.specs.Sort.{sort}
use Rattle.order.specs.Order.{Ascending, count}
use Rattle.order.proofs.Laws as ranking
use Rattle.trip.specs.declared.Rooms.{Rooms}
use Rattle.trip.specs.Trip.{evaluated, answer_of}
use Rattle.trip.specs.Rules.{speeds_kept, co2_kept}
use Rattle.trip.specs.Sums.{SumsUp}
use Rattle.trip.proofs.Theorems as trip
use Rattle.trip.proofs.Verdict as verdict

module _ (plan : Plan) (lanes : Lanes) where
  -- seconds, distance, CO2 and NOx of the three bins are those of the trip
  pub bins_add_up : SumsUp plan lanes
  bins_add_up = trip.sums-up plan lanes

  -- the answer's classes are the counts of the windows of its kept seconds
  pub classes_counted : let count = class_count plan (speeds_kept plan lanes) (co2_kept plan lanes) in (evaluated plan lanes).classes ≡ count urban ∷ count rural ∷ count motorway ∷ []
  classes_counted = verdict.classes-counted plan lanes

  -- the seconds of an accepted trip: those of the bins, and the missing
  pub seconds_add_up : (rooms : Rooms) → (answer_of plan lanes rooms).refusal ≡ 0 → (evaluated plan lanes).total.seconds + (evaluated plan lanes).missing ≡ (evaluated plan lanes).seconds
  seconds_add_up rooms z = trip.seconds-less-missing plan lanes (trip.accepted-passed plan lanes rooms z)

-- the windows of the three classes and those without one are all windows
pub windows_add_up : (plan : Plan) (speeds co2 : List ℕ) → let count = class_count plan speeds co2 in (count urban).windows + (count rural).windows + (count motorway).windows + (count unclassed).windows ≡ windows plan.reference co2
windows_add_up = counts.classes-add-up

-- the ranking lane holds `sort` of each bin's products: they ascend, and each stands there as often as among the products
pub ranks_ascend : (products : List ℕ) → Ascending (sort products)
ranks_ascend = ranking.sort-ascending

pub ranks_same : (product : ℕ) (products : List ℕ) → count product (sort products) ≡ count product products
ranks_same = ranking.sort-count
