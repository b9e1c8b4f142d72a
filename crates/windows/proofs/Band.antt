-- The band, multiplied out: where the curve is not above 0 no window is inside, and where it is both comparisons are of naturals. Assumes nothing.
use Prim.Native.Nat.{ℕ, ◌+◌, ◌-◌, ◌*◌, ◌≤◌, ◌<◌}
use mathlib.Core.Path.{◌≡◌, refl, sym, ◌∙◌, ap, ap₂}
use mathlib.Core.Bool.{Bool, false, not, ◌&&◌, and-false, not-not}
use native.Mathlib.Nat.{mul-add, add-mul, mul-le-mul_left, mul-le-mul_right, mul-pos, zero-mul, one-mul}
use native.Mathlib.Omega.{arith}
use borrow.Author.Tests.{lt-leb}
use lib.Dec.{leb, ltb}
use Rattle.base.specs.Fraction.{Fraction, whole, times, at_most}
use Rattle.base.proofs.Fractions.{Is, is_same, whole_is, times_is, at_most_is}
use Rattle.base.proofs.Integers.{leb_same, ltb_is}
use Rattle.windows.specs.declared.curve.Curve.{Curve}
use Rattle.windows.specs.Figure.{mass_per_km, in_band}
use Rattle.windows.specs.Inside.{held_as}
use Rattle.windows.proofs.Exact.{figure_is}

-- at most is not above
not_above : (a b : ℕ) → leb a b ≡ not (ltb b a)
not_above a b = sym (not-not (leb a b)) ∙ ap not (sym (ltb_is b a))

-- the curve that the code holds
pub held : (c : Curve) → Is (held_as c) c.above c.under c.over
unfolding held_as
held c = record { above = refl; under = refl }

-- for a curve (p - q) / d
module _ {c : Fraction} {p q d : ℕ} (is : Is c p q d) (s m : ℕ) where
  part_is : (k : ℕ) → Is (times (whole k) c) (k * p) (k * q) d
  part_is k =
      is_same (k * p) (k * q) d (times_is (whole_is k) is) (omega (arith, zero-mul p, zero-mul q)) (one-mul d)

  hundredfold_is : Is (times (whole 100) (mass_per_km s m)) (36_000_000 * m) 0 s
  hundredfold_is =
      is_same (36_000_000 * m) 0 s (times_is (whole_is 100) (figure_is s m)) (omega arith) (one-mul s)

  pub least : (k : ℕ) → at_most (times (whole k) c) (times (whole 100) (mass_per_km s m)) ≡ leb (k * p * s) (36_000_000 * m * d + k * q * s)
  least k =
      let left : k * p * s + 0 * d ≡ k * p * s = omega (arith, zero-mul d) in
      at_most_is (part_is k) hundredfold_is ∙ ap₂ leb left refl

  pub most : (k : ℕ) → at_most (times (whole 100) (mass_per_km s m)) (times (whole k) c) ≡ leb (36_000_000 * m * d + k * q * s) (k * p * s)
  most k =
      let right : k * p * s + 0 * d ≡ k * p * s = omega (arith, zero-mul d) in
      at_most_is hundredfold_is (part_is k) ∙ ap₂ leb refl right

  -- at or below 0: no window that has a mass is under the upper end
  pub band_not_above : (lower upper : ℕ) → p ≤ q → 0 < m → 0 < d → in_band lower upper c (mass_per_km s m) ≡ false
  unfolding in_band
  band_not_above lower upper h weighs some =
      let k = 100 + upper in
      let figure : 0 < 36_000_000 * m * d = mul-pos (omega arith) some in
      let less : k * p * s ≤ k * q * s = mul-le-mul_right s (mul-le-mul_left k h) in
      let over : k * p * s < 36_000_000 * m * d + k * q * s = omega arith in
      rw (most k, lt-leb _ _ over) (and-false (at_most (times (whole (100 - lower)) c) (times (whole 100) (mass_per_km s m))))

  -- above 0
  taken : (k : ℕ) → q ≤ p → k * p * s ≡ k * q * s + k * (p - q) * s
  taken k h =
      let all : p ≡ q + (p - q) = omega arith in
      ap (λ (x : ℕ). k * x * s) all ∙ ap (λ (x : ℕ). x * s) (mul-add k q (p - q)) ∙ add-mul (k * q) (k * (p - q)) s

  least_above : (k : ℕ) → q ≤ p → at_most (times (whole k) c) (times (whole 100) (mass_per_km s m)) ≡ not (ltb (36_000_000 * m * d) (k * (p - q) * s))
  least_above k h =
      let parts = taken k h in
      least k
      ∙ leb_same (k * p * s) (36_000_000 * m * d + k * q * s) (k * (p - q) * s) (36_000_000 * m * d) (λ (j : k * p * s ≤ 36_000_000 * m * d + k * q * s). omega arith) (λ (j : 36_000_000 * m * d + k * q * s < k * p * s). omega arith)
      ∙ not_above (k * (p - q) * s) (36_000_000 * m * d)

  most_above : (k : ℕ) → q ≤ p → at_most (times (whole 100) (mass_per_km s m)) (times (whole k) c) ≡ not (ltb (k * (p - q) * s) (36_000_000 * m * d))
  most_above k h =
      let parts = taken k h in
      most k
      ∙ leb_same (36_000_000 * m * d + k * q * s) (k * p * s) (36_000_000 * m * d) (k * (p - q) * s) (λ (j : 36_000_000 * m * d + k * q * s ≤ k * p * s). omega arith) (λ (j : k * p * s < 36_000_000 * m * d + k * q * s). omega arith)
      ∙ not_above (36_000_000 * m * d) (k * (p - q) * s)

  pub band_above : (lower upper : ℕ) → q ≤ p → in_band lower upper c (mass_per_km s m) ≡ not (ltb (36_000_000 * m * d) ((100 - lower) * (p - q) * s)) && not (ltb ((100 + upper) * (p - q) * s) (36_000_000 * m * d))
  unfolding in_band
  band_above lower upper h = ap₂ (λ (x y : Bool). x && y) (least_above (100 - lower) h) (most_above (100 + upper) h)
