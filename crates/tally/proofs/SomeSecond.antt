-- What a count above 0 says: one of the seconds is in the set. Assumes nothing.
use Prim.Native.Nat.{ℕ, zero, suc, ◌+◌, ◌<◌}
use mathlib.Core.Path.{◌≡◌, refl}
use mathlib.Core.Bool.{Bool, true, false}
use mathlib.Core.Logic.{◌↔◌}
use native.Mathlib.Omega.{arith}
use borrow.Author.Tests.{ltb-true, ltb-false}
use lib.Dec.{ltb}
use Rattle.base.specs.Words.{pick, after_first, sum_over, how_many}
use Rattle.tally.specs.Facts.{SomeIn}

module _ (in_set : ℕ → Bool) where
  some_found : (n : ℕ) → 0 < how_many in_set n → SomeIn in_set n
  unfolding sum_over after_first
  some_found zero h = absurd (omega (arith, h))
  some_found (suc n) h = go (in_set n) refl h (some_found n)
    where
      go : (t : Bool) → in_set n ≡ t → 0 < how_many in_set n + pick t 1 0 → (0 < how_many in_set n → SomeIn in_set n) → SomeIn in_set (suc n)
      go true q more before = record { second = n; within = omega arith; is_in = q }
      go false q more before =
          let there : SomeIn in_set n = before (omega arith) in
          record { second = there.second; within = omega (arith, there.within); is_in = there.is_in }

  some_counted : (n : ℕ) → SomeIn in_set n → 0 < how_many in_set n
  unfolding sum_over after_first
  some_counted zero some = absurd (omega (arith, some.within))
  some_counted (suc n) some = go (ltb some.second n) refl (some_counted n)
    where
      go : (t : Bool) → ltb some.second n ≡ t → (SomeIn in_set n → 0 < how_many in_set n) → 0 < how_many in_set n + pick (in_set n) 1 0
      go true q before =
          omega (arith, before (record { second = some.second; within = ltb-true _ _ q; is_in = some.is_in }))
      go false q before =
          let here : n ≡ some.second = omega (arith, some.within, ltb-false some.second n q) in
          rw (here, some.is_in) (omega arith)

  -- a set of seconds has one exactly when their number is above 0
  pub some_in : (n : ℕ) → (0 < how_many in_set n) ↔ SomeIn in_set n
  some_in n = (some_found n, some_counted n)
