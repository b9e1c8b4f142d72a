-- Inputs in range lead to a last product that is finite, not negative and below 2 ^ 53: no product overflows, and none is a NaN. Assumes nothing.
use Prim.Native.Nat.{ℕ, ◌^◌, ◌≤◌}
use mathlib.Core.Path.{◌≡◌}
use mathlib.Core.Bool.{true, ◌&&◌, false≢true}
use native.Mathlib.Nat.{mul-one}
use lib.Dec.{lit≤}
use lib.Ieee.{Float, of_int, round}
use Rattle.mass.specs.declared.Reading.{Reading}
use Rattle.mass.specs.declared.Reading.TheVariants.{WetPpm, DryPpm, WetPercent, DryPercent}
use Rattle.mass.specs.declared.Setting.{Setting}
use Rattle.mass.specs.Mass.{number, hundredth, zero_to, above_zero_to, reading_in_range, setting_in_range, ppm_of, wet_ppm, last_product}
use Rattle.mass.specs.Inside.{Bounded, bounded}
use Rattle.base.proofs.Tests.{and_left, and_right}
use Rattle.mass.proofs.Ranges.{zero_to_bounded, above_zero_to_bounded}
use Rattle.mass.proofs.Products.{times_bounded}

-- ---- the ends of the ranges
ppm_end : Bounded (number 200_000) 200_000
unfolding of_int
ppm_end = bounded (λ s. absurd (false≢true s)) (lit≤ tt)

percent_end : Bounded (number 20) 20
unfolding of_int
percent_end = bounded (λ s. absurd (false≢true s)) (lit≤ tt)

one_end : Bounded (number 1) 1
unfolding of_int
one_end = bounded (λ s. absurd (false≢true s)) (lit≤ tt)

u_end : Bounded hundredth 1
unfolding round
u_end = bounded (λ s. absurd (false≢true s)) (lit≤ tt)

-- ---- the setting
pub record SettingBounded (s : Setting) : Type 0 where
  pub u : Bounded s.u 1
  pub factor : Bounded s.factor 1
  pub flow : Bounded s.flow 1

pub setting_bounded : (s : Setting) → setting_in_range s ≡ true → SettingBounded s
unfolding setting_in_range
setting_bounded s h =
    let u_in = above_zero_to s.u hundredth in
    let factor_in = above_zero_to s.factor (number 1) in
    let flow_in = zero_to s.flow (number 1) in
    let pair : u_in && factor_in ≡ true = and_left (u_in && factor_in) flow_in h in
    record {
      u = above_zero_to_bounded s.u u_end (and_left u_in factor_in pair);
      factor = above_zero_to_bounded s.factor one_end (and_right u_in factor_in pair);
      flow = zero_to_bounded s.flow one_end (and_right (u_in && factor_in) flow_in h);
    }

-- ---- the products
pub ppm_in_percent : Bounded (number 10_000) 10_000
unfolding of_int
ppm_in_percent = bounded (λ s. absurd (false≢true s)) (lit≤ tt)

-- a reading in ppm, wet or dry
abbrev pub in_ppm : Reading → Float
in_ppm (WetPpm x) = x
in_ppm (DryPpm x) = x
in_ppm (WetPercent x) = ppm_of x
in_ppm (DryPercent x) = ppm_of x

ppm_bounded : (reading : Reading) → reading_in_range reading ≡ true → Bounded (in_ppm reading) 200_000
unfolding reading_in_range
ppm_bounded (WetPpm x) h = zero_to_bounded x ppm_end h
ppm_bounded (DryPpm x) h = zero_to_bounded x ppm_end h
ppm_bounded (WetPercent x) h = times_bounded (zero_to_bounded x percent_end h) ppm_in_percent (lit≤ tt)
ppm_bounded (DryPercent x) h = times_bounded (zero_to_bounded x percent_end h) ppm_in_percent (lit≤ tt)

-- what bounds the concentration bounds it wet
pub wet_at_most : (reading : Reading) (factor : Float) (top : ℕ) → top ≤ 2 ^ 53 → Bounded (in_ppm reading) top → Bounded factor 1 → Bounded (wet_ppm reading factor) top
unfolding wet_ppm
wet_at_most (WetPpm x) factor top fine ppm f = ppm
wet_at_most (DryPpm x) factor top fine ppm f = rw mul-one at (times_bounded ppm f (rw mul-one fine))
wet_at_most (WetPercent x) factor top fine ppm f = ppm
wet_at_most (DryPercent x) factor top fine ppm f = rw mul-one at (times_bounded ppm f (rw mul-one fine))

pub wet_bounded : (reading : Reading) (factor : Float) → reading_in_range reading ≡ true → Bounded factor 1 → Bounded (wet_ppm reading factor) 200_000
wet_bounded reading factor h f = wet_at_most reading factor 200_000 (lit≤ tt) (ppm_bounded reading h) f

pub product_bounded : (scale : Float) (reading : Reading) (s : Setting) → Bounded scale 1_000_000 → reading_in_range reading ≡ true → setting_in_range s ≡ true → Bounded (last_product scale reading s) 200_000_000_000
unfolding last_product
product_bounded scale reading s b r h =
    let in_range = setting_bounded s h in
    let wet = wet_bounded reading s.factor r in_range.factor in
    times_bounded (times_bounded (times_bounded in_range.u wet (lit≤ tt)) in_range.flow (lit≤ tt)) b (lit≤ tt)
