-- What is said of the exact band: fractions with a denominator above zero, the band multiplied out, lines that meet, no window inside where the curve is not above
-- 0, no lower end at a tolerance of 100, and the class by the floor. Assumes nothing.
use Prim.Native.Nat.{ℕ, ◌+◌, ◌-◌, ◌*◌, ◌/◌, ◌≤◌, ◌<◌}
use mathlib.Core.Path.{◌≡◌, refl, sym, ◌∙◌, ap₂}
use mathlib.Core.Bool.{Bool, true, false, ◌&&◌}
use native.Mathlib.Nat.{mul-add, zero-mul, le-div_iff_mul-le, div-lt_iff_lt-mul}
use native.Mathlib.Omega.{arith}
use borrow.Author.Tests.{le-leb, lt-ltb, le-ltb, leb-true, ltb-true, ltb-false}
use lib.Dec.{leb, ltb}
use Rattle.base.specs.declared.Plan.{Plan}
use Rattle.base.specs.Fraction.{Fraction, whole, times, at_most, below, IsNumber}
use Rattle.base.proofs.Choice.{both_ways}
use Rattle.base.proofs.Fractions.{Is, is_same, whole_is, at_most_is, has, lacks, as_difference}
use Rattle.windows.specs.Figure.{mean_speed, mass_per_km, speed_of_e1, from_e1_to_e2, speed_of_e2, from_e2_to_e3, line_at, curve, in_band}
use Rattle.windows.proofs.Exact.{mean_is, figure_is, mean_below, line_is}
use Rattle.windows.proofs.Band.{least, most, band_not_above}

-- ---- denominators
pub mean_proper : (s n : ℕ) → 0 < n → 0 < (mean_speed s n).denominator
mean_proper s n h = rw (mean_is s n).under h

pub figure_proper : (s m : ℕ) → 0 < s → 0 < (mass_per_km s m).denominator
figure_proper s m h = rw (figure_is s m).under h

pub curve_proper : (plan : Plan) (s n : ℕ) → 0 < n → 0 < (curve plan (mean_speed s n)).denominator
unfolding curve
curve_proper plan s n h =
    both_ways (λ (c : Fraction). 0 < c.denominator) (at_most (mean_speed s n) (whole speed_of_e2))
    (rw (line_is plan.e1 plan.e2 speed_of_e1 from_e1_to_e2 (mean_is s n)).under (omega arith))
    (rw (line_is plan.e2 plan.e3 speed_of_e2 from_e2_to_e3 (mean_is s n)).under (omega arith))

-- ---- the band multiplied out
pub multiplied_out : (lower upper e f a w s m n : ℕ) → let above = e * (w * n + a * n) + f * (10 * s) in let under = e * (10 * s) + f * (a * n) in let figure = 36_000_000 * m * (w * n) in in_band lower upper (line_at e f a w (mean_speed s n)) (mass_per_km s m) ≡ leb ((100 - lower) * above * s) (figure + (100 - lower) * under * s) && leb (figure + (100 + upper) * under * s) ((100 + upper) * above * s)
unfolding in_band
multiplied_out lower upper e f a w s m n =
    let line = line_is e f a w (mean_is s n) in
    ap₂ (λ (x y : Bool). x && y) (least line s m (100 - lower)) (most line s m (100 + upper))

-- ---- the lines meet
-- (p - q) / d is the whole number k
is_number : {x : Fraction} {p q d : ℕ} (k : ℕ) → Is x p q d → p ≡ k * d + q → IsNumber x k
is_number {x} {p} {q} {d} k is e =
    let up : p * 1 + 0 * d ≤ k * d + q * 1 = omega (arith, zero-mul d) in
    let down : k * d + q * 1 ≤ p * 1 + 0 * d = omega (arith, zero-mul d) in
    (at_most_is is (whole_is k) ∙ le-leb _ _ up, at_most_is (whole_is k) is ∙ le-leb _ _ down)

module _ {v : Fraction} {n : ℕ} (e f a w : ℕ) where
  -- a line has the value f at its end, and e at its beginning
  line_ends : Is v (w * n + a * n) 0 n → IsNumber (line_at e f a w v) f
  line_ends is = is_number f (line_is e f a w is) (omega (arith, mul-add f (w * n) (a * n)))

  line_begins : Is v (a * n) 0 n → IsNumber (line_at e f a w v) e
  line_begins is = is_number e (line_is e f a w is) (omega (arith, mul-add e (w * n) (a * n)))

-- at 56,664 both lines have the value E2
module _ (e f s n : ℕ) (turn : 10 * s ≡ speed_of_e2 * n) where
  pub first_at_turn : IsNumber (line_at e f speed_of_e1 from_e1_to_e2 (mean_speed s n)) f
  first_at_turn = line_ends e f speed_of_e1 from_e1_to_e2 (is_same (from_e1_to_e2 * n + speed_of_e1 * n) 0 n (mean_is s n) (omega arith) refl)

  pub second_at_turn : IsNumber (line_at e f speed_of_e2 from_e2_to_e3 (mean_speed s n)) e
  second_at_turn = line_begins e f speed_of_e2 from_e2_to_e3 (is_same (speed_of_e2 * n) 0 n (mean_is s n) (omega arith) refl)

-- ---- at or below 0, and a lower tolerance of 100
pub never_inside : (lower upper : ℕ) (c : Fraction) (s m : ℕ) → 0 < c.denominator → 0 < m → at_most c (whole 0) ≡ true → in_band lower upper c (mass_per_km s m) ≡ false
never_inside lower upper c s m some weighs h =
    let is = as_difference c in
    let test : has c * 1 + 0 * c.denominator ≤ 0 * c.denominator + lacks c * 1 = leb-true _ _ (sym (at_most_is is (whole_is 0)) ∙ h) in
    band_not_above is s m lower upper (omega (arith, zero-mul c.denominator)) weighs some

pub no_lower_end : (c : Fraction) (s m : ℕ) → at_most (times (whole (100 - 100)) c) (times (whole 100) (mass_per_km s m)) ≡ true
no_lower_end c s m =
    let nothing : 0 * has c * s ≤ 36_000_000 * m * c.denominator + 0 * lacks c * s = rw (zero-mul (has c), zero-mul s) (omega arith) in
    least (as_difference c) s m 0 ∙ le-leb _ _ nothing

-- ---- by the floor of the mean the classes are the same
pub floor_below : (s n k : ℕ) → 0 < n → below (mean_speed s n) (whole k) ≡ ltb (10 * s / n) k
floor_below s n k h = mean_below s n k ∙ go (ltb (10 * s) (k * n)) refl
  where
    go : (t : Bool) → ltb (10 * s) (k * n) ≡ t → t ≡ ltb (10 * s / n) k
    go true p = sym (lt-ltb (10 * s / n) k ((div-lt_iff_lt-mul h).1 (ltb-true (10 * s) (k * n) p)))
    go false p = sym (le-ltb (10 * s / n) k ((le-div_iff_mul-le h).1 (ltb-false (10 * s) (k * n) p)))
