-- What a window is judged by (Appendix 5), from the plan, the sum S of its speeds, its CO2 m in mg and its length n, on exact
-- fractions: change request L2, "The rounding of mean speed, curve and window figure in document 01 is ours and the package does not
-- have it." A window has at least one second, each is kept, and it reaches the reference: n and m are at least 1 and S at least 100 n.
use Rattle.std.specs.Prelude.{ℕ, ◌+◌, ◌-◌, ◌*◌, Bool, false, ◌&&◌, eqb}
use Rattle.base.specs.declared.Plan.{Plan}
use Rattle.base.specs.Fraction.{Fraction, whole, plus, minus, times, over, at_most, below}
use Rattle.base.specs.Roads.{urban, rural, motorway}
use Rattle.base.specs.Words.{pick}

-- "mean speed is v = .. 10S/n .. in 0.001 km/h"; "the exact mean"
abbrev pub mean_speed : ℕ → ℕ → Fraction
mean_speed s n = over (whole (10 * s)) n

-- beside the three classes, the number of a window that has none
abbrev pub unclassed : ℕ
unclassed = 3

-- "Urban: v < 45,000. Rural: to below 80,000. Motorway: to below 145,000. Faster windows have no class."
abbrev pub urban_below : ℕ
urban_below = 45_000

abbrev pub rural_below : ℕ
rural_below = 80_000

abbrev pub motorway_below : ℕ
motorway_below = 145_000

unfoldable pub class_of : Fraction → ℕ
class_of v =
    pick (below v (whole urban_below)) urban
    (pick (below v (whole rural_below)) rural
    (pick (below v (whole motorway_below)) motorway unclassed))

-- "the unrounded line at the exact mean", from the value e at speed a to the value f at speed a + w: e + (f-e)(v-a)/w
unfoldable pub line_at : ℕ → ℕ → ℕ → ℕ → Fraction → Fraction
line_at e f a w v = plus (whole e) (over (times (minus (whole f) (whole e)) (minus v (whole a))) w)

-- "for v up to 56,664, E1 + .. (E2-E1)(v-18,882)/37,782, also below 18,882; beyond, E2 + .. (E3-E2)(v-56,664)/35,333", "(the first
-- up to 56,664 itself)": the mean speeds of E1 and of E2, and from each to the next
abbrev pub speed_of_e1 : ℕ
speed_of_e1 = 18_882

abbrev pub from_e1_to_e2 : ℕ
from_e1_to_e2 = 37_782

abbrev pub speed_of_e2 : ℕ
speed_of_e2 = 56_664

abbrev pub from_e2_to_e3 : ℕ
from_e2_to_e3 = 35_333

unfoldable pub curve : Plan → Fraction → Fraction
curve plan v =
    pick (at_most v (whole speed_of_e2))
    (line_at plan.e1 plan.e2 speed_of_e1 from_e1_to_e2 v)
    (line_at plan.e2 plan.e3 speed_of_e2 from_e2_to_e3 v)

-- "Window figure w = .. 360,000 m / S .., m its CO2 in mg."; "the window figure is the exact quotient"
abbrev pub mass_per_km : ℕ → ℕ → Fraction
mass_per_km s m = over (whole (360_000 * m)) s

-- "Inside: 100w at least (100-lower)c and at most (100+upper)c."; "both comparisons are made by cross-multiplying"
unfoldable pub in_band : ℕ → ℕ → Fraction → Fraction → Bool
in_band lower upper c w =
    at_most (times (whole (100 - lower)) c) (times (whole 100) w)
    && at_most (times (whole 100) w) (times (whole (100 + upper)) c)

-- "upper tolerances for urban, rural, motorway"
unfoldable pub upper_of : Plan → ℕ → ℕ
upper_of plan class = pick (eqb class urban) plan.urban (pick (eqb class rural) plan.rural plan.motorway)

-- a window judged: its class, and whether it is inside its band
pub record Figure : Type 0 where
  pub class : ℕ
  pub inside : Bool

-- the class of a window and whether it is inside; a window without a class is in no band
unfoldable pub figure_of : Plan → ℕ → ℕ → ℕ → Figure
figure_of plan s m n =
    let v = mean_speed s n in
    let class = class_of v in
    record {
      class = class;
      inside = pick (eqb class unclassed) false (in_band plan.lower (upper_of plan class) (curve plan v) (mass_per_km s m));
    }
