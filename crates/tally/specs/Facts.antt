-- What the reasons say of a trip's seconds, as facts about some of them.
use Rattle.std.specs.Prelude.{ℕ, suc, ◌+◌, ◌≤◌, ◌<◌, ◌≡◌, Bool, true, List}
use Rattle.tally.specs.Sets.{is_missing}

-- one of the first n seconds is in a set
pub record SomeIn (in_set : ℕ → Bool) (n : ℕ) : Type 0 where
  pub second : ℕ
  pub within : second < n
  pub is_in : in_set second ≡ true

-- over k missing in a row among the first n seconds
pub record Gap (states : List ℕ) (n k : ℕ) : Type 0 where
  pub from : ℕ
  pub within : from + suc k ≤ n
  pub all_missing : (j : ℕ) → j < suc k → is_missing states (from + j) ≡ true
