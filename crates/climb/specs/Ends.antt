-- The first and the last recorded altitude of a trip.
use Rattle.std.specs.Prelude.{ℕ, Bool, List, ltb, ℤ, pos, nat_abs, ◌-ℤ◌, length, get_or}
use Rattle.base.specs.Words.{pick, after_first, first_where}
use Rattle.second.specs.Row.{has_values}

-- the first and the last second that has an altitude, and n where none has
unfoldable pub first_with_altitude : List ℕ → ℕ
first_with_altitude states = first_where (λ i. has_values (get_or states i 0)) (length states)

unfoldable pub last_with_altitude : List ℕ → ℕ
last_with_altitude states = after_first (λ i last. pick (has_values (get_or states i 0)) i last) (length states) (length states)

-- by how many cm "first and last recorded altitude differ"
unfoldable pub ends_difference : List ℕ → List ℤ → ℕ
ends_difference states altitudes = nat_abs (get_or altitudes (last_with_altitude states) (pos 0) -ℤ get_or altitudes (first_with_altitude states) (pos 0))

-- "by over 10,000"
abbrev pub ends_most : ℕ
ends_most = 10_000

abbrev pub ends_apart : List ℕ → List ℤ → Bool
ends_apart states altitudes = ltb ends_most (ends_difference states altitudes)
