-- What the steps inside may take for granted, and what they are by definition.
use Rattle.std.specs.Prelude.{ℕ, ◌+◌, ◌^◌, ◌≤◌, ◌<◌, ◌≡◌, Bool, true, false, Option, Some, None, List, [], ◌∷◌, length, get_or}
use Rattle.std.proofs.Math.IntN.{sub_ℕ}
use Rattle.base.specs.declared.Plan.{Plan}
use Rattle.base.specs.Fraction.{Fraction, fraction}
use Rattle.base.specs.Limits.{trip_limit, speed_most, curve_most}
use Rattle.base.specs.Plan.{plan_in_range}
use Rattle.base.specs.declared.road.Road.{Road}
use Rattle.base.specs.Roads.{urban, rural, motorway, road_number}
use Rattle.base.specs.Words.{pick, sum}
use Rattle.kept.specs.Kept.{kept_speed_least}
use Rattle.sweep.specs.Window.{window_end, windows}
use Rattle.windows.specs.declared.ClassCount.{ClassCount}
use Rattle.windows.specs.declared.curve.Curve.{Curve}
use Rattle.windows.specs.declared.Figure as held
use Rattle.windows.specs.Figure.{Figure, unclassed, speed_of_e2, from_e1_to_e2}
use Rattle.windows.specs.Counts.{class_count}

-- the most seconds of a window that the exact comparisons have room for, whatever the limit of a trip
abbrev pub window_most : ℕ
window_most = 32_768

-- what one line of the curve is given: values in range, at speeds on the curve
pub record LineGiven (e f a w : ℕ) : Type 0 where
  pub e_most : e ≤ curve_most
  pub f_most : f ≤ curve_most
  pub a_most : a ≤ speed_of_e2
  pub w_least : 0 < w
  pub w_most : w ≤ from_e1_to_e2

-- the curve as the code holds it, a difference not yet taken over a denominator
unfoldable pub held_as : Curve → Fraction
held_as c = fraction (sub_ℕ c.above c.under) c.over

-- what judging one window is given: a plan in range, seconds, speeds that move, and a mass, as a window has that reaches its
-- reference; the mass fits a u32
pub record Judgeable (plan : Plan) (s m n : ℕ) : Type 0 where
  pub plan_is_in_range : plan_in_range plan ≡ true
  pub lasts : 0 < n
  pub few : n ≤ window_most
  pub moves : 0 < s
  pub weighs : 0 < m
  pub light : m < 2 ^ 32

-- at most a trip's speeds, each in its range
pub record KeptSpeeds (speeds : List ℕ) : Type 0 where
  pub few : length speeds ≤ trip_limit
  pub each : (i : ℕ) → i < length speeds → get_or speeds i 0 ≤ speed_most

-- what the seconds of one window are
pub record WindowSeconds (plan : Plan) (speeds co2 : List ℕ) : Type 0 where
  pub judgeable : Judgeable plan (sum speeds) (sum co2) (length co2)
  pub speeds_are_kept : KeptSpeeds speeds

-- the kept lanes of a trip whose sweep is over, and the lane of ends as far as it has windows: the place of each window's first second
-- has its end
pub record SweptLanes (plan : Plan) (speeds co2 ends : List ℕ) : Type 0 where
  pub plan_is_in_range : plan_in_range plan ≡ true
  pub same_length : length speeds ≡ length co2
  pub each_moves : (i : ℕ) → i < length speeds → kept_speed_least ≤ get_or speeds i 0
  pub speeds_are_kept : KeptSpeeds speeds
  pub masses_fit : sum co2 < 2 ^ 32
  pub all : length ends ≡ windows plan.reference co2
  pub ended : (f : ℕ) → f < length ends → get_or ends f 0 ≡ window_end plan.reference co2 f

-- the number of a window's class, by its name in the code
abbrev pub class_number : Option Road → ℕ
class_number (Some road) = road_number road
class_number None = unclassed

-- a window judged as the code holds it: none where it has no class
abbrev pub figure_in : Option held.Figure → Figure
figure_in (Some figure) = record { class = road_number figure.class; inside = figure.inside }
figure_in None = record { class = unclassed; inside = false }

-- one window more
abbrev pub with_window : Bool → ClassCount → ClassCount
with_window inside count = record { windows = count.windows + 1; inside = count.inside + pick inside 1 0 }

-- the array of counts: urban, rural, motorway, and the windows that have no class
unfoldable pub counts_of : Plan → List ℕ → List ℕ → List ClassCount
counts_of plan speeds co2 =
    let count = class_count plan speeds co2 in
    count urban ∷ count rural ∷ count motorway ∷ count unclassed ∷ []
