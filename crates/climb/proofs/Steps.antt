-- Laws of the climb: one second more at the code's i + 1, and that no trip climbs more than `climb_most`. Assumes nothing.
use Prim.Native.Nat.{ℕ, suc, ◌+◌, ◌*◌, ◌≤◌}
use mathlib.Core.Path.{◌≡◌, refl}
use mathlib.Core.List.{List}
use native.Mathlib.Numerals.{add-one}
use native.Mathlib.Omega.{arith}
use lib.IntN.{ℤ}
use lib.ListN.{length}
use Rattle.std.proofs.Common.{Some, None, nat_abs, ◌-ℤ◌, pos, negsuc, true}
use Rattle.std.proofs.lemmas.Int.{ints}
use borrow.Author.Tests.{leb-true, ltb-true}
use Rattle.base.specs.Limits.{altitude_below_zero, altitude_most}
use Rattle.base.specs.Second.{altitude_in_range}
use Rattle.base.proofs.Seconds.{after_none, after_more, after_keeps}
use Rattle.climb.specs.Corrected.{Altitude, corrected_after}
use Rattle.climb.specs.Climb.{upward, step_up, climb_after, climb_of}
use Rattle.climb.specs.Inside.{Within, step_most, climb_most, ClimbLanes}
use Rattle.climb.proofs.Altitudes.{corrected_within}

-- two altitudes in range differ by less
pub difference_at_most : (y z : ℤ) → altitude_in_range y ≡ true → altitude_in_range z ≡ true → nat_abs (z -ℤ y) ≤ step_most
unfolding altitude_in_range
difference_at_most (pos a) (pos b) p q = omega (arith, ints, leb-true a altitude_most p, leb-true b altitude_most q)
difference_at_most (pos a) (negsuc b) p q = omega (arith, ints, leb-true a altitude_most p, ltb-true b altitude_below_zero q)
difference_at_most (negsuc a) (pos b) p q = omega (arith, ints, ltb-true a altitude_below_zero p, leb-true b altitude_most q)
difference_at_most (negsuc a) (negsuc b) p q = omega (arith, ints, ltb-true a altitude_below_zero p, ltb-true b altitude_below_zero q)

-- what is upward is no more than the difference
upward_at_most : (z : ℤ) → upward z ≤ nat_abs z
unfolding upward
upward_at_most (pos n) = omega arith
upward_at_most (negsuc n) = omega arith

-- a step between altitudes in range
step_at_most : (from to : Altitude) → Within from → Within to → step_up from to ≤ step_most
unfolding step_up
step_at_most None to p q = omega arith
step_at_most (Some y) None p q = omega arith
step_at_most (Some y) (Some z) p q = omega (arith, upward_at_most (z -ℤ y), difference_at_most y z p q)

module _ (states speeds : List ℕ) (altitudes : List ℤ) where
  pub climb_none : climb_after states speeds altitudes 0 ≡ 0
  unfolding climb_after
  climb_none = after_none _ _

  pub climb_more : (i : ℕ) → climb_after states speeds altitudes (i + 1) ≡ climb_after states speeds altitudes i + step_up (corrected_after states speeds altitudes i) (corrected_after states speeds altitudes (i + 1))
  unfolding climb_after
  climb_more i = rw (after_more _ _ i, add-one) refl

  module _ (lanes : ClimbLanes states speeds altitudes) where
    one_at_most : (i : ℕ) → step_up (corrected_after states speeds altitudes i) (corrected_after states speeds altitudes (suc i)) ≤ step_most
    one_at_most i =
        step_at_most _ _ (corrected_within states speeds altitudes lanes.recorded i) (corrected_within states speeds altitudes lanes.recorded (suc i))

    after_at_most : (n : ℕ) → climb_after states speeds altitudes n ≤ n * step_most
    unfolding climb_after
    after_at_most =
        after_keeps _ _ (λ i climb. climb ≤ i * step_most) (omega arith)
        (λ i climb (h : climb ≤ i * step_most).
        omega (arith, one_at_most i))

    pub climb_at_most : (climb_of states speeds altitudes).climb ≤ climb_most
    unfolding climb_of
    climb_at_most = omega (arith, after_at_most (length states), lanes.few)
