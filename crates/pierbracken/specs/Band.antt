-- Change request L2: "Judge the band on the true fractions." That fractions are ordered by cross-multiplying, that those of a window have
-- a denominator above zero, and what follows for the band.
use Rattle.std.specs.Prelude.{ℕ, ◌+◌, ◌-◌, ◌*◌, ◌/◌, ◌<◌, ◌≡◌, true, false, ◌&&◌, ◌⊎◌, leb, ltb, pos, ◌*ℤ◌}
use Rattle.base.specs.declared.Plan.{Plan}
use Rattle.base.specs.Fraction.{Fraction, whole, times, at_most, below, IsNumber}
use Rattle.base.proofs.Fractions as fractions
use Rattle.windows.specs.Figure.{mean_speed, mass_per_km, speed_of_e1, from_e1_to_e2, speed_of_e2, from_e2_to_e3, line_at, curve, in_band}
use Rattle.windows.proofs.Theorems as band

-- ---- "by cross-multiplying" is an order
pub at_most_itself : (x : Fraction) → at_most x x ≡ true
at_most_itself = fractions.itself

-- of two, one is at most the other
pub one_at_most : (x y : Fraction) → (at_most x y ≡ true) ⊎ (at_most y x ≡ true)
one_at_most = fractions.either

-- it goes on from one to the next
pub goes_on : (x y z : Fraction) → 0 < y.denominator → at_most x y ≡ true → at_most y z ≡ true → at_most x z ≡ true
goes_on = fractions.onward

-- two fractions that are at most each other are one number: a/b and c/d with ad = cb
pub one_number :
    (x y : Fraction) →
    at_most x y ≡ true →
    at_most y x ≡ true →
    x.numerator *ℤ pos y.denominator ≡ y.numerator *ℤ pos x.denominator
one_number = fractions.one_number

-- whole numbers are ordered as numbers
pub whole_numbers : (m n : ℕ) → at_most (whole m) (whole n) ≡ leb m n
whole_numbers = fractions.wholes

-- ---- mean, curve and figure of a window have a denominator above zero
pub mean_denominator : (s n : ℕ) → 0 < n → 0 < (mean_speed s n).denominator
mean_denominator = band.mean-proper

pub curve_denominator : (plan : Plan) (s n : ℕ) → 0 < n → 0 < (curve plan (mean_speed s n)).denominator
curve_denominator = band.curve-proper

pub figure_denominator : (s m : ℕ) → 0 < s → 0 < (mass_per_km s m).denominator
figure_denominator = band.figure-proper

-- ---- the class
-- "Urban: v < 45,000 ..": by the mean rounded down, as before, or by the exact one, a mean is below the same whole numbers
pub class_by_floor : (s n border : ℕ) → 0 < n → below (mean_speed s n) (whole border) ≡ ltb (10 * s / n) border
class_by_floor = band.floor-below

-- ---- the curve
-- "the first up to 56,664 itself": there both lines have the value E2
module _ (plan : Plan) (s n : ℕ) (at_the_turn : 10 * s ≡ speed_of_e2 * n) where
  pub first_line_meets : IsNumber (line_at plan.e1 plan.e2 speed_of_e1 from_e1_to_e2 (mean_speed s n)) plan.e2
  first_line_meets = band.first-at-turn plan.e1 plan.e2 s n at_the_turn

  pub second_line_meets : IsNumber (line_at plan.e2 plan.e3 speed_of_e2 from_e2_to_e3 (mean_speed s n)) plan.e2
  second_line_meets = band.second-at-turn plan.e2 plan.e3 s n at_the_turn

-- ---- the band
-- multiplied out: with c = (above - under) / wn on the line from e at a to f at a + w, and the figure 360,000 m / S
pub multiplied_out :
    (lower upper e f a w s m n : ℕ) →
    let above = e * (w * n + a * n) + f * (10 * s) in
    let under = e * (10 * s) + f * (a * n) in
    let figure = 36_000_000 * m * (w * n) in
    in_band lower upper (line_at e f a w (mean_speed s n)) (mass_per_km s m)
    ≡ leb ((100 - lower) * above * s) (figure + (100 - lower) * under * s)
    && leb (figure + (100 + upper) * under * s) ((100 + upper) * above * s)
multiplied_out = band.multiplied-out

-- where the curve is at or below 0 no window is inside, whatever the tolerances: it has a mass
pub never_inside :
    (lower upper : ℕ) (c : Fraction) (s m : ℕ) →
    0 < c.denominator →
    0 < m →
    at_most c (whole 0) ≡ true →
    in_band lower upper c (mass_per_km s m) ≡ false
never_inside = band.never-inside

-- with a lower tolerance of 100 percent the lower comparison always holds
pub no_lower_end : (c : Fraction) (s m : ℕ) → at_most (times (whole (100 - 100)) c) (times (whole 100) (mass_per_km s m)) ≡ true
no_lower_end = band.no-lower-end
