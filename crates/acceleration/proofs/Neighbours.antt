-- Laws of the second before and the second after, inside the trip and at its ends. Assumes nothing.
use Prim.Native.Nat.{ℕ, suc, ◌+◌, ◌-◌, ◌≤◌, ◌<◌}
use mathlib.Core.Path.{◌≡◌, refl, ap}
use mathlib.Core.Bool.{true}
use mathlib.Core.List.{List}
use native.Mathlib.Omega.{arith}
use lib.ListN.{length, get_or, get_or-eq_default}
use Rattle.std.proofs.lemmas.List.{get_or_default}
use Rattle.base.specs.Second.{measured}
use Rattle.second.specs.Row.{has_values}
use Rattle.acceleration.specs.D.{speed_before, speed_after, has_before, has_after}

-- an index above 0 is one more than its predecessor
one_up : (i : ℕ) → 0 < i → i ≡ suc (i - 1)
one_up i h = omega arith

module _ (speeds : List ℕ) (i : ℕ) where
  pub speed_before_first : i ≡ 0 → speed_before speeds i ≡ 0
  unfolding speed_before
  speed_before_first e = rw e refl

  pub speed_before_lem : 0 < i → speed_before speeds i ≡ get_or speeds (i - 1) 0
  unfolding speed_before
  speed_before_lem h = ap (speed_before speeds) (one_up i h)

  pub speed_after_lem : speed_after speeds i ≡ get_or speeds (i + 1) 0
  unfolding speed_after
  speed_after_lem = refl

  pub speed_after_last : length speeds ≤ i + 1 → speed_after speeds i ≡ 0
  unfolding speed_after
  speed_after_last h = get_or-eq_default speeds 0 h

module _ (states : List ℕ) (i : ℕ) where
  pub has_before_first : i ≡ 0 → has_before states i ≡ true
  unfolding has_before
  has_before_first e = rw e refl

  pub has_before_lem : 0 < i → has_before states i ≡ has_values (get_or states (i - 1) 0)
  unfolding has_before
  has_before_lem h = ap (has_before states) (one_up i h)

  pub has_after_lem : i + 1 < length states → has_after states i ≡ has_values (get_or states (i + 1) 0)
  unfolding has_after
  has_after_lem h = ap has_values (get_or_default states (i + 1) measured 0 h)

  pub has_after_last : length states ≤ i + 1 → has_after states i ≡ true
  unfolding has_after has_values
  has_after_last h = rw (get_or-eq_default states measured h) refl
