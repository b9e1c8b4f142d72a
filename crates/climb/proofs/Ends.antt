-- Laws of the first and the last second that has an altitude, and of how far apart their altitudes are. Assumes nothing.
use Prim.Native.Nat.{ℕ, zero, suc, ◌+◌, ◌-◌, ◌≤◌, ◌<◌}
use mathlib.Core.Path.{◌≡◌, refl, ◌∙◌, ap}
use mathlib.Core.Bool.{Bool, true, false}
use mathlib.Core.List.{List}
use native.Mathlib.Omega.{arith}
use lib.IntN.{ℤ, pos, nat_abs, ◌-ℤ◌, +ℤ_invr}
use lib.ListN.{length, get_or}
use Rattle.base.specs.Words.{pick, after_first}
use Rattle.base.proofs.FirstWhere.{first_where_lem}
use Rattle.base.proofs.Search.{finds, finds_none}
use Rattle.second.specs.Row.{has_values}
use Rattle.climb.specs.Ends.{first_with_altitude, last_with_altitude, ends_difference}

module _ (states : List ℕ) where
  abbrev has : ℕ → Bool
  has i = has_values (get_or states i 0)

  -- the last of the first i seconds that has an altitude, and n where none has
  abbrev pub last_of : ℕ → ℕ
  last_of = after_first (λ i last. pick (has i) i last) (length states)

  pub last_is : last_with_altitude states ≡ last_of (length states)
  unfolding last_with_altitude
  last_is = refl

  pub last_none : last_of 0 ≡ length states
  unfolding after_first
  last_none = refl

  last_step : (i : ℕ) → last_of (suc i) ≡ pick (has i) i (last_of i)
  unfolding after_first
  last_step i = refl

  -- the first and the last second that has an altitude, as they are found
  pub first_at : (i : ℕ) → i < length states → ((k : ℕ) → k < i → has k ≡ false) → has i ≡ true → first_with_altitude states ≡ i
  unfolding first_with_altitude
  first_at i h before some = finds has (length states) i h before some

  passed : (i : ℕ) → has i ≡ true → ((k : ℕ) → suc i ≤ k → k < length states → has k ≡ false) → (d : ℕ) → suc i + d ≤ length states → last_of (suc i + d) ≡ i
  passed i some after zero h =
      let same : suc i + 0 ≡ suc i = omega arith in
      rw (same, last_step i, some) refl
  passed i some after (suc d) h =
      let same : suc i + suc d ≡ suc (suc i + d) = omega arith in
      rw (same, last_step (suc i + d), after (suc i + d) (omega arith) (omega arith)) (passed i some after d (omega arith))

  pub last_at : (i : ℕ) → i < length states → ((k : ℕ) → suc i ≤ k → k < length states → has k ≡ false) → has i ≡ true → last_with_altitude states ≡ i
  last_at i h after some =
      let end : suc i + (length states - suc i) ≡ length states = omega arith in
      last_is ∙ rw end at (passed i some after (length states - suc i) (omega arith))

  -- no second has an altitude: first and last are both past the end
  none_of : (n : ℕ) → ((i : ℕ) → i < n → has i ≡ false) → last_of n ≡ length states
  none_of zero none = last_none
  none_of (suc n) none = last_step n ∙ rw (none n (omega arith)) (none_of n (λ i (h : i < n). none i (omega arith)))

  pub none_last : first_with_altitude states ≡ length states → last_with_altitude states ≡ length states
  unfolding first_with_altitude
  none_last e =
      last_is ∙ none_of (length states) (λ i (h : i < length states). (first_where_lem has (length states)).before i (omega arith))

module _ (states : List ℕ) (altitudes : List ℤ) where
  same_size : (z : ℤ) → nat_abs (z -ℤ z) ≡ 0
  same_size z = ap nat_abs (+ℤ_invr z)

  pub no_difference : ((k : ℕ) → k < length states → has_values (get_or states k 0) ≡ false) → ends_difference states altitudes ≡ 0
  unfolding first_with_altitude ends_difference
  no_difference none =
      let first : first_with_altitude states ≡ length states = finds_none _ (length states) (length states) (omega arith) (omega arith) none in
      rw (first, none_last states first) (same_size (get_or altitudes (length states) (pos 0)))

  -- the difference of the two that were found
  pub difference_of : (first last : ℕ) → first_with_altitude states ≡ first → last_with_altitude states ≡ last → ends_difference states altitudes ≡ nat_abs (get_or altitudes last (pos 0) -ℤ get_or altitudes first (pos 0))
  unfolding ends_difference
  difference_of first last f l = rw (f, l) refl
