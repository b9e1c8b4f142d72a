-- Demand 2: "Examples (a) to (l) are one table and one proof of the definitions." (d) to (f) as change request L2 states them.
use Rattle.std.specs.Prelude.{ℕ, zero, suc, ◌+◌, ◌≡◌, refl, Bool, true, false, List, [], ◌∷◌, pos, negsuc, Ok, length, take, replicate}
use Rattle.std.specs.Float.{fin}
use Rattle.std.specs.Float.Ieee.{of_int, le, lt, eq, mul, round}
use Rattle.base.specs.declared.Plan.{Plan}
use Rattle.base.specs.Fraction.{whole, plus, minus, times, over, at_most, below, IsNumber}
use Rattle.base.specs.Roads.{urban}
use Rattle.base.specs.Words.{sum, after_first, first_where, sum_over}
use Rattle.second.specs.Bins.{bin_of}
use Rattle.second.specs.Row.{has_values}
use Rattle.sweep.specs.Sweep.{beginning, move, move_ends, after_moves, ends_after}
use Rattle.sweep.specs.Window.{windows, has_window, window_last}
use Rattle.windows.specs.Figure.{speed_of_e2, from_e2_to_e3, line_at, curve}
use Rattle.acceleration.specs.D.{speed_before, speed_after, d_of, has_before, has_after, has_d}
use Rattle.acceleration.specs.Products.{counts, counts_in, product_of, products_after, products_of}
use Rattle.percentile.specs.Percentile.{q_of}
use Rattle.climb.specs.Corrected.{recorded_at, recorded_before, jumps, corrected, corrected_after}
use Rattle.climb.specs.Climb.{upward, step_up, climb_after, climb_of, steep}
use Rattle.mass.specs.declared.Reading.{Reading}
use Rattle.mass.specs.declared.Reading.TheVariants.{DryPpm}
use Rattle.mass.specs.declared.Setting.{Setting}
use Rattle.mass.specs.Mass.{reading_in_range, setting_in_range, zero_to, above_zero_to, wet_ppm, last_product, whole_part, mass_answer, co2_mass}

-- "plan 7; 200,000; 140,000; 160,000; 25, 45, 40, 40"
abbrev printed_plan : Plan
printed_plan =
    record { reference = 7; e1 = 200_000; e2 = 140_000; e3 = 160_000; lower = 25; urban = 45; rural = 40; motorway = 40 }

-- so many numbers from the first on
abbrev up_from : ℕ → ℕ → List ℕ
up_from first zero = []
up_from first (suc n) = first ∷ up_from (suc first) n

-- a row: what is given, and what it comes to
pub data Row : Type 0 where
  sweep : (masses : List ℕ) (reference : ℕ) (ends : List ℕ) (moves : ℕ) → Row
  curve_between : (mean low high : ℕ) → Row
  curve_is : (mean value : ℕ) → Row
  second_line_is : (mean value : ℕ) → Row
  products : (speeds found : List ℕ) → Row
  d_counts : (d : ℕ) (counted : Bool) → Row
  ranks_to : (last q : ℕ) → Row
  change : (cm climbed : ℕ) → Row
  too_steep : (distance climbed : ℕ) (is : Bool) → Row
  weigh : (reading : Reading) (setting : Setting) (mg : ℕ) → Row

-- what a row says of the definitions
abbrev pub says : Row → Type 0
-- a sweep with moves enough leaves these ends, of as many windows, and has made these moves
says (sweep co2 reference ends moves) =
    (take (windows reference co2) (ends_after reference co2 (length co2 + length co2) beginning (replicate (length co2) 0)) ≡ ends)
    × ((after_moves reference co2 (length co2 + length co2) beginning).moves ≡ moves)
-- the exact curve of the printed plan: strictly between two whole numbers, or a whole number, on its second line too
says (curve_between v low high) =
    (below (whole low) (curve printed_plan (whole v)) ≡ true) × (below (curve printed_plan (whole v)) (whole high) ≡ true)
says (curve_is v value) = IsNumber (curve printed_plan (whole v)) value
says (second_line_is v value) = IsNumber (line_at printed_plan.e2 printed_plan.e3 speed_of_e2 from_e2_to_e3 (whole v)) value
-- three measured seconds
says (products speeds found) = products_of urban (1 ∷ 1 ∷ 1 ∷ []) speeds ≡ found
-- the first of two measured seconds, whose D is the speed of the second
says (d_counts d counted) = counts (1 ∷ 1 ∷ []) (1_000 ∷ d ∷ []) 0 ≡ counted
says (ranks_to last q) = q_of (up_from 1 last) ≡ q
-- two measured seconds, the second at speed 3,600, from altitude 0 up by a change
says (change cm climbed) = (climb_of (1 ∷ 1 ∷ []) (0 ∷ 3_600 ∷ []) (pos 0 ∷ pos cm ∷ [])).climb ≡ climbed
says (too_steep distance climbed is) = steep climbed distance ≡ is
says (weigh reading setting mg) = co2_mass reading setting ≡ Ok mg

abbrev pub table : List Row
table =
    sweep (3 ∷ 0 ∷ 4 ∷ 2 ∷ 5 ∷ []) 7 (3 ∷ 5 ∷ 5 ∷ 5 ∷ []) 9  -- (a)
    ∷ sweep (3 ∷ 0 ∷ 4 ∷ 2 ∷ 5 ∷ []) 15 [] 5  -- (b)
    ∷ sweep (7 ∷ []) 7 (1 ∷ []) 2  -- (c)
    ∷ curve_between 18_883 199_998 199_999  -- (d)
    ∷ curve_is 37_773 170_000  -- (e)
    ∷ curve_is 56_664 140_000  -- (f)
    ∷ second_line_is 56_664 140_000
    ∷ products (1_000 ∷ 2_000 ∷ 1_500 ∷ []) (2_000_000 ∷ 1_000_000 ∷ [])  -- (g)
    ∷ d_counts 72 false  -- (h)
    ∷ d_counts 73 true
    ∷ ranks_to 101 9_595  -- (i)
    ∷ change 707 707  -- (j): it stands
    ∷ change 708 0  -- it is held
    ∷ too_steep 28_800_000 95_999 false  -- (k)
    ∷ too_steep 28_800_000 96_000 true
    ∷ weigh (DryPpm (fin false 1 (pos 10))) (record { u = fin false 1 (negsuc 9); factor = fin false 1 (negsuc 0); flow = fin false 1 (negsuc 2) }) 62  -- (l): 1,024; 2^-10, 0.5, 0.125
    ∷ []

abbrev pub all_say : List Row → Type 0
all_say [] = Unit {0}
all_say (row ∷ rows) = says row × all_say rows

pub examples : all_say table
unfolding after_first first_where sum_over sum after_moves ends_after move move_ends has_window window_last curve line_at whole plus minus times over at_most below bin_of has_values speed_before speed_after d_of has_before has_after has_d counts counts_in product_of products_after q_of recorded_at recorded_before jumps corrected corrected_after upward step_up climb_after climb_of steep co2_mass mass_answer reading_in_range setting_in_range zero_to above_zero_to le lt eq of_int round wet_ppm last_product whole_part mul
examples = ((refl, refl), ((refl, refl), ((refl, refl), ((refl, refl), ((refl, refl), ((refl, refl), ((refl, refl), (refl, (refl, (refl, (refl, (refl, (refl, (refl, (refl, (refl, tt))))))))))))))))
