-- From concentration to mass (Appendix 4). Numbers are f64, and a product is rounded once, to the nearest f64 (IEEE 754).
use Rattle.std.specs.Prelude.{ℕ, ◌*◌, ◌/◌, Bool, false, ◌&&◌, leb, pos, Float, Result, Ok, Err}
use Rattle.std.specs.Float.{nan, inf, fin, binary64}
use Rattle.std.specs.Float.Ieee.{mul, le, lt, of_int, round, up, down}
use Rattle.mass.specs.declared.Reading.{Reading}
use Rattle.mass.specs.declared.Reading.TheVariants.{WetPpm, DryPpm, WetPercent, DryPercent}
use Rattle.mass.specs.declared.Setting.{Setting}
use Rattle.base.specs.declared.refusal.Refusal.{Refusal}
use Rattle.base.specs.declared.refusal.Refusal.TheVariants.{MassInput, MassTooLarge}
use Rattle.base.specs.Limits.{co2_most, nox_most}
use Rattle.base.specs.Words.{pick}

-- a whole number as an f64
abbrev pub number : ℕ → Float
number n = of_int binary64 (pos n)

-- the f64 nearest to 1/100
abbrev pub hundredth : Float
hundredth = round binary64 false 1 100

-- 0 to top. Every comparison with a NaN fails, so a NaN is out of range, and so is an infinity
unfoldable pub zero_to : Float → Float → Bool
zero_to x top = le (number 0) x && le x top

-- above 0, at most top
unfoldable pub above_zero_to : Float → Float → Bool
above_zero_to x top = lt (number 0) x && le x top

-- "Ppm runs 0 to 200,000, percent 0 to 20; a negative zero reading or flow counts as zero."
abbrev pub ppm_in_range : Float → Bool
ppm_in_range ppm = zero_to ppm (number 200_000)

abbrev pub percent_in_range : Float → Bool
percent_in_range percent = zero_to percent (number 20)

unfoldable pub reading_in_range : Reading → Bool
reading_in_range (WetPpm ppm) = ppm_in_range ppm
reading_in_range (DryPpm ppm) = ppm_in_range ppm
reading_in_range (WetPercent percent) = percent_in_range percent
reading_in_range (DryPercent percent) = percent_in_range percent

-- "A setting holds u (above 0, at most 0.01), the dry-wet factor (above 0, at most 1) and exhaust flow in kg/s (0 to 1)."
unfoldable pub setting_in_range : Setting → Bool
setting_in_range s = above_zero_to s.u hundredth && above_zero_to s.factor (number 1) && zero_to s.flow (number 1)

-- a product, rounded once
abbrev pub times : Float → Float → Float
times = mul binary64

-- "In this order, one rounding each: percent times 10,000;"
abbrev pub ppm_of : Float → Float
ppm_of percent = times percent (number 10_000)

-- "dry times the factor;"
unfoldable pub wet_ppm : Reading → Float → Float
wet_ppm (WetPpm ppm) factor = ppm
wet_ppm (DryPpm ppm) factor = times ppm factor
wet_ppm (WetPercent percent) factor = ppm_of percent
wet_ppm (DryPercent percent) factor = times (ppm_of percent) factor

-- "u times that; times flow; times 1,000 for CO2 in mg or 1,000,000 for NOx in µg.": the scale is one of these
unfoldable pub last_product : Float → Reading → Setting → Float
last_product scale reading s = times (times (times s.u (wet_ppm reading s.factor)) s.flow) scale

-- the whole part of m * 2 ^ e (`up e` / `down e` is 2 ^ e); an infinity or a NaN has none, and no accepted input leads to one
unfoldable pub whole_part : Float → ℕ
whole_part nan = 0
whole_part (inf s) = 0
whole_part (fin s m e) = m * up e / down e

-- "The whole part of the last product is the answer"; 9 where an input is out of range, then 10 where the mass is above limit
unfoldable pub mass_answer : Float → ℕ → Reading → Setting → Result ℕ Refusal
mass_answer scale limit reading s =
    pick (reading_in_range reading && setting_in_range s)
    (pick (leb (whole_part (last_product scale reading s)) limit) (Ok (whole_part (last_product scale reading s))) (Err MassTooLarge))
    (Err MassInput)

-- CO2 in mg, and NOx in µg
abbrev pub mg_in_a_gram : Float
mg_in_a_gram = number 1_000

unfoldable pub co2_mass : Reading → Setting → Result ℕ Refusal
co2_mass = mass_answer mg_in_a_gram co2_most

abbrev pub µg_in_a_gram : Float
µg_in_a_gram = number 1_000_000

unfoldable pub nox_mass : Reading → Setting → Result ℕ Refusal
nox_mass = mass_answer µg_in_a_gram nox_most
