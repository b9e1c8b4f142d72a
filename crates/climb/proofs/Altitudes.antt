-- Laws of recorded and corrected altitudes: one second more at the code's i + 1, and their range. Assumes nothing.
use Prim.Native.Nat.{ℕ, zero, suc, ◌+◌, ◌<◌}
use mathlib.Core.Path.{◌≡◌, refl, sym, ◌∙◌}
use mathlib.Core.Bool.{Bool, true, false, ◌||◌, false≢true}
use mathlib.Core.List.{List}
use native.Mathlib.Numerals.{add-one}
use native.Mathlib.Omega.{arith}
use borrow.Author.Tests.{ltb-true, ltb-false, lt-ltb}
use lib.Dec.{ltb}
use lib.IntN.{ℤ, pos, ◌-ℤ◌}
use lib.ListN.{length, get_or, get_or-eq_default}
use Rattle.std.proofs.Common.{Some, None}
use Rattle.base.specs.Words.{pick, how_many}
use Rattle.base.proofs.Choice.{both_ways}
use Rattle.base.proofs.Seconds.{after_none, after_more, after_keeps}
use Rattle.base.proofs.SumOver.{sum_over_none, sum_over_more}
use Rattle.second.specs.Row.{has_values}
use Rattle.climb.specs.Corrected.{Altitude, recorded_at, recorded_before, jumps, corrected, corrected_after, is_high, high_after}
use Rattle.climb.specs.Inside.{Within, AltitudeLanes}

module _ (states : List ℕ) (altitudes : List ℤ) where
  -- a second with values has its altitude, a missing one none
  pub recorded_some : (i : ℕ) → has_values (get_or states i 0) ≡ true → recorded_at states altitudes i ≡ Some (get_or altitudes i (pos 0))
  unfolding recorded_at
  recorded_some i has = rw has refl

  pub recorded_none : (i : ℕ) → has_values (get_or states i 0) ≡ false → recorded_at states altitudes i ≡ None
  unfolding recorded_at
  recorded_none i lacks = rw lacks refl

  pub before_none : recorded_before states altitudes 0 ≡ None
  unfolding recorded_before
  before_none = refl

  pub before_more : (i : ℕ) → recorded_before states altitudes (i + 1) ≡ recorded_at states altitudes i
  unfolding recorded_before
  before_more i = rw add-one

module _ (states speeds : List ℕ) (altitudes : List ℤ) where
  pub corrected_none : corrected_after states speeds altitudes 0 ≡ None
  unfolding corrected_after
  corrected_none = after_none _ _

  pub corrected_more : (i : ℕ) → corrected_after states speeds altitudes (i + 1) ≡ corrected (corrected_after states speeds altitudes i) (recorded_before states altitudes i) (recorded_at states altitudes i) (get_or speeds i 0)
  unfolding corrected_after
  corrected_more i = after_more _ _ i

  -- whether one of the first i is too high
  pub high_none : ltb 0 (how_many (high_after states speeds altitudes) 0) ≡ false
  high_none = rw (sum_over_none (high_after states speeds altitudes) (λ i. 1)) refl

  or_one : (h : ℕ) (t : Bool) → ltb 0 (h + pick t 1 0) ≡ (ltb 0 h || t)
  or_one zero true = refl
  or_one zero false = refl
  or_one (suc h) t = lt-ltb 0 (suc h + pick t 1 0) (omega arith) ∙ sym (rw (lt-ltb 0 (suc h) (omega arith)) refl)

  pub high_more : (i : ℕ) → ltb 0 (how_many (high_after states speeds altitudes) (i + 1)) ≡ (ltb 0 (how_many (high_after states speeds altitudes) i) || is_high (corrected_after states speeds altitudes (i + 1)))
  high_more i =
      rw (sum_over_more (high_after states speeds altitudes) (λ i. 1) i, add-one) (or_one (how_many (high_after states speeds altitudes) i) (high_after states speeds altitudes i))

-- ---- the range
module _ (states speeds : List ℕ) (altitudes : List ℤ) (lanes : AltitudeLanes states altitudes) where
  has_second : (i : ℕ) → has_values (get_or states i 0) ≡ true → i < length states
  unfolding has_values
  has_second i has = go (ltb i (length states)) refl
    where
      go : (t : Bool) → ltb i (length states) ≡ t → i < length states
      go true q = ltb-true i (length states) q
      go false q = absurd (false≢true (rw (get_or-eq_default states 0 (ltb-false i (length states) q)) at has))

  recorded_within : (i : ℕ) → Within (recorded_at states altitudes i)
  recorded_within i = go (has_values (get_or states i 0)) refl
    where
      go : (t : Bool) → has_values (get_or states i 0) ≡ t → Within (recorded_at states altitudes i)
      go true q = rw (recorded_some states altitudes i q) (lanes.in_range i (has_second i q) q)
      go false q = rw (recorded_none states altitudes i q) tt

  corrected_keeps : (previous before recorded : Altitude) (s : ℕ) → Within previous → Within recorded → Within (corrected previous before recorded s)
  unfolding corrected
  corrected_keeps previous before None s p r = p
  corrected_keeps previous None (Some z) s p r = r
  corrected_keeps previous (Some y) (Some z) s p r = both_ways Within (jumps (z -ℤ y) s) p r

  pub corrected_within : (i : ℕ) → Within (corrected_after states speeds altitudes i)
  unfolding corrected_after
  corrected_within =
      after_keeps _ _ (λ i altitude. Within altitude) tt (λ i previous h. corrected_keeps previous (recorded_before states altitudes i) (recorded_at states altitudes i) (get_or speeds i 0) h (recorded_within i))
