-- The kept seconds and windows of a trip.
use Rattle.std.specs.Prelude.{ℕ, ◌+◌, List, [], ◌∷◌, length}
use Rattle.base.specs.declared.Plan.{Plan}
use Rattle.base.specs.Roads.{urban, rural, motorway}
use Rattle.kept.specs.Kept.{kept_of}
use Rattle.sweep.specs.Sweep.{beginning, ends_after}
use Rattle.sweep.specs.Window as window
use Rattle.windows.specs.Counts.{class_count}
use Rattle.found.specs.declared.Found.{Found}

-- the moves of the sweep run to its end: each kept second is taken, and each window closed
abbrev pub moves_to_end : ℕ → List ℕ → ℕ
moves_to_end reference co2 = length co2 + window.windows reference co2

-- what kept seconds come to: "windows, unclassed ones too", and "for each class windows and windows inside"
unfoldable pub found_in : Plan → List ℕ → List ℕ → Found
found_in plan speeds co2 =
    let count = class_count plan speeds co2 in
    record {
      kept = length co2;
      windows = window.windows plan.reference co2;
      moves = moves_to_end plan.reference co2;
      classes = count urban ∷ count rural ∷ count motorway ∷ [];
    }

-- the lane of ends, "with the sweep run to its end"
unfoldable pub ends_in : Plan → List ℕ → List ℕ → List ℕ
ends_in plan co2 ends = ends_after plan.reference co2 (moves_to_end plan.reference co2) beginning ends

-- "Kept speeds and CO2 masses stand in order in lanes of their own."
abbrev pub kept_speed_values : List ℕ → List ℕ → List ℕ
kept_speed_values states speeds = kept_of states speeds speeds

abbrev pub kept_co2_values : List ℕ → List ℕ → List ℕ → List ℕ
kept_co2_values states speeds co2 = kept_of states speeds co2

-- what a trip's lanes come to, and their lane of ends
abbrev pub found_of : Plan → List ℕ → List ℕ → List ℕ → Found
found_of plan states speeds co2 = found_in plan (kept_speed_values states speeds) (kept_co2_values states speeds co2)

abbrev pub ends_of : Plan → List ℕ → List ℕ → List ℕ → List ℕ → List ℕ
ends_of plan states speeds co2 ends = ends_in plan (kept_co2_values states speeds co2) ends
