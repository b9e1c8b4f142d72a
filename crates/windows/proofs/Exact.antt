-- Mean speed, line and figure multiplied out: each fraction of the definitions is one difference of naturals over one natural (`Is`), and comparing a
-- mean with a whole number is comparing products. Assumes nothing.
use Prim.Native.Nat.{ℕ, ◌+◌, ◌*◌, ◌≤◌, ◌<◌}
use mathlib.Core.Path.{◌≡◌, refl, sym, ◌∙◌, ap, ap₂}
use mathlib.Core.Bool.{not}
use native.Mathlib.Nat.{mul-add, mul_comm, mul-one, one-mul, zero-mul}
use native.Mathlib.Omega.{arith}
use lib.Dec.{leb, ltb}
use Rattle.base.specs.Fraction.{Fraction, whole, over, at_most, below}
use Rattle.base.proofs.Fractions.{Is, is_same, whole_is, plus_is, minus_is, times_is, over_is, at_most_is}
use Rattle.base.proofs.Integers.{ltb_is}
use Rattle.base.specs.Limits.{curve_most}
use Rattle.base.proofs.Products.{product_at_most}
use Rattle.windows.specs.Figure.{mean_speed, mass_per_km, motorway_below, speed_of_e2, from_e1_to_e2, line_at}
use Rattle.windows.specs.Inside.{window_most, LineGiven}

-- a whole number divided by n
quotient_is : (k n : ℕ) → Is (over (whole k) n) k 0 n
quotient_is k n = is_same k 0 n (over_is n (whole_is k)) (omega arith) (one-mul n)

pub mean_is : (s n : ℕ) → Is (mean_speed s n) (10 * s) 0 n
mean_is s n = quotient_is (10 * s) n

pub figure_is : (s m : ℕ) → Is (mass_per_km s m) (360_000 * m) 0 s
figure_is s m = quotient_is (360_000 * m) s

-- a mean speed beside a whole number
pub mean_at_most : (s n k : ℕ) → at_most (mean_speed s n) (whole k) ≡ leb (10 * s) (k * n)
mean_at_most s n k =
    let left : 10 * s * 1 + 0 * n ≡ 10 * s = omega (arith, zero-mul n) in
    let right : k * n + 0 * 1 ≡ k * n = omega arith in
    at_most_is (mean_is s n) (whole_is k) ∙ ap₂ leb left right

pub mean_below : (s n k : ℕ) → below (mean_speed s n) (whole k) ≡ ltb (10 * s) (k * n)
unfolding below
mean_below s n k =
    let left : k * n + 0 * 1 ≡ k * n = omega arith in
    let right : 10 * s * 1 + 0 * n ≡ 10 * s = omega (arith, zero-mul n) in
    ap not (at_most_is (whole_is k) (mean_is s n) ∙ ap₂ leb left right) ∙ sym (ltb_is (10 * s) (k * n))

-- the line at x / n
pub line_is : {v : Fraction} {x n : ℕ} (e f a w : ℕ) → Is v x 0 n → Is (line_at e f a w v) (e * (w * n + a * n) + f * x) (e * x + f * (a * n)) (w * n)
unfolding line_at
line_is {v} {x} {n} e f a w is =
    let rise = is_same f e 1 (minus_is (whole_is f) (whole_is e)) (omega arith) refl in
    let ahead = is_same x (a * n) n (minus_is is (whole_is a)) (omega (arith, zero-mul n)) (mul-one n) in
    let denominator : 1 * n * w ≡ w * n = ap (λ (k : ℕ). k * w) (one-mul n) ∙ mul_comm n w in
    let spread : e * (w * n + a * n) ≡ e * (w * n) + e * (a * n) = mul-add e (w * n) (a * n) in
    let all : e * (1 * n * w) + (f * x + e * (a * n)) * 1 + (e * x + f * (a * n)) ≡ e * (w * n + a * n) + f * x + (0 * (1 * n * w) + (f * (a * n) + e * x) * 1) = rw (denominator, spread) (omega (arith, zero-mul (w * n))) in
    is_same (e * (w * n + a * n) + f * x) (e * x + f * (a * n)) (w * n) (plus_is (whole_is e) (over_is w (times_is rise ahead))) all (one-mul (1 * n * w) ∙ denominator)

-- what the products of a line are at most
pub record Bounds (e f a w s n : ℕ) : Type 0 where
  pub from : a * n ≤ speed_of_e2 * window_most
  pub over : w * n ≤ from_e1_to_e2 * window_most
  pub e_ends : e * (w * n + a * n) ≤ curve_most * ((speed_of_e2 + from_e1_to_e2) * window_most)
  pub f_speeds : f * (10 * s) ≤ curve_most * (motorway_below * window_most)
  pub e_speeds : e * (10 * s) ≤ curve_most * (motorway_below * window_most)
  pub f_from : f * (a * n) ≤ curve_most * (speed_of_e2 * window_most)

pub bounds : {e f a w s n : ℕ} → LineGiven e f a w → n ≤ window_most → 10 * s < motorway_below * n → Bounds e f a w s n
bounds {e} {f} {a} {w} {s} {n} given few classed =
    let from : a * n ≤ speed_of_e2 * window_most = product_at_most (speed_of_e2 * window_most) given.a_most few tt in
    let over : w * n ≤ from_e1_to_e2 * window_most = product_at_most (from_e1_to_e2 * window_most) given.w_most few tt in
    let ends : w * n + a * n ≤ (speed_of_e2 + from_e1_to_e2) * window_most = omega arith in
    let speeds : 10 * s ≤ motorway_below * window_most = omega (arith, few, classed) in
    record {
      from = from;
      over = over;
      e_ends = product_at_most (curve_most * ((speed_of_e2 + from_e1_to_e2) * window_most)) given.e_most ends tt;
      f_speeds = product_at_most (curve_most * (motorway_below * window_most)) given.f_most speeds tt;
      e_speeds = product_at_most (curve_most * (motorway_below * window_most)) given.e_most speeds tt;
      f_from = product_at_most (curve_most * (speed_of_e2 * window_most)) given.f_most from tt;
    }
