-- What a search has found, where it stops and where it comes to the end: for the first index at which a test holds, and for the first bad one. Assumes nothing.
use Prim.Native.Nat.{ℕ, ◌≤◌, ◌<◌}
use mathlib.Core.Path.{◌≡◌}
use mathlib.Core.Bool.{Bool, true, false}
use native.Mathlib.Omega.{arith}
use Rattle.base.specs.Words.{first_where, first_bad}
use Rattle.base.proofs.FirstWhere.{first_where_is}
use Rattle.base.proofs.FirstBad.{first_bad_is}

module _ (test : ℕ → Bool) (n i : ℕ) where
  -- it finds an index at which the test holds, behind others at which it does not
  pub finds : i < n → ((k : ℕ) → k < i → test k ≡ false) → test i ≡ true → first_where test n ≡ i
  finds h before holds = first_where_is test n i record { within = omega arith; before = before; there = λ below. holds }

  -- it finds none
  pub finds_none : i ≤ n → n ≤ i → ((k : ℕ) → k < i → test k ≡ false) → first_where test n ≡ i
  finds_none h h' before = first_where_is test n i record { within = h; before = before; there = λ (below : i < n). absurd (omega arith) }

module _ (good : ℕ → Bool) (n i : ℕ) where
  -- it stops at a bad index behind good ones
  pub stops_at : i < n → ((k : ℕ) → k < i → good k ≡ true) → good i ≡ false → first_bad good n ≡ i
  stops_at h before bad = first_bad_is good n i record { within = omega arith; before = before; there = λ below. bad }

  -- it comes to the end behind good ones
  pub comes_to : i ≤ n → n ≤ i → ((k : ℕ) → k < i → good k ≡ true) → first_bad good n ≡ i
  comes_to h h' before = first_bad_is good n i record { within = h; before = before; there = λ (below : i < n). absurd (omega arith) }
