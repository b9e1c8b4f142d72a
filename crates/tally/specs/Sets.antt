-- Sets of a trip's seconds.
use Rattle.std.specs.Prelude.{ℕ, Bool, ◌&&◌, List, ltb, eqb, get_or}
use Rattle.base.specs.Second.{missing}
use Rattle.base.specs.Roads.{urban}
use Rattle.second.specs.Bins.{bin_of}
use Rattle.second.specs.Row.{has_values}
use Rattle.tally.specs.Numbers.{slow_below}

-- second i is missing
abbrev pub is_missing : List ℕ → ℕ → Bool
is_missing states i = eqb (get_or states i 0) missing

-- second i has values: it is in state 1 or 3
abbrev pub is_present : List ℕ → ℕ → Bool
is_present states i = has_values (get_or states i 0)

-- "Bins by the second's speed ..; missing seconds have none."
abbrev pub is_in_bin : List ℕ → List ℕ → ℕ → ℕ → Bool
is_in_bin states speeds bin i = is_present states i && eqb (bin_of (get_or speeds i 0)) bin

-- "urban seconds below 100"
abbrev pub is_slow_urban : List ℕ → List ℕ → ℕ → Bool
is_slow_urban states speeds i = is_in_bin states speeds urban i && ltb (get_or speeds i 0) slow_below

-- second i has a speed above a number
abbrev pub is_above : List ℕ → List ℕ → ℕ → ℕ → Bool
is_above states speeds speed i = is_present states i && ltb speed (get_or speeds i 0)
