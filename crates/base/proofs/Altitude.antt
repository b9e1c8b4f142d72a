-- The range of altitudes by its two ends. Assumes nothing.
use mathlib.Core.Path.{◌≡◌, refl, sym, ◌∙◌}
use mathlib.Core.Bool.{◌&&◌, and-true}
use lib.Dec.{leb-suc-suc}
use lib.IntN.{ℤ, pos, negsuc, neg_ℤ}
use lib.Signed.{le_z}
use Rattle.base.specs.Limits.{altitude_below_zero, altitude_most}
use Rattle.base.specs.Second.{altitude_in_range}

-- the lowest and the highest altitude in range
abbrev pub lowest : ℤ
lowest = neg_ℤ (pos altitude_below_zero)

abbrev pub highest : ℤ
highest = pos altitude_most

-- in range is between the two
pub in_range_between : (z : ℤ) → altitude_in_range z ≡ le_z lowest z && le_z z highest
unfolding altitude_in_range
in_range_between (pos a) = refl
in_range_between (negsuc a) = leb-suc-suc a _ ∙ sym (and-true _)
