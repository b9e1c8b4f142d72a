-- The climb of a trip (Appendix 7b, first edition).
use Rattle.std.specs.Prelude.{ℕ, suc, ◌+◌, ◌*◌, Bool, Some, None, List, leb, ltb, ℤ, pos, negsuc, ◌-ℤ◌, length}
use Rattle.base.specs.Words.{after_first, how_many}
use Rattle.climb.specs.declared.Climbed.{Climbed}
use Rattle.climb.specs.Corrected.{Altitude, corrected_after, high_after}

-- a difference where it is upward, and 0 where it is downward
unfoldable pub upward : ℤ → ℕ
upward (pos difference) = difference
upward (negsuc difference) = 0

-- the upward step from one corrected altitude to the next; where there is none, no step
unfoldable pub step_up : Altitude → Altitude → ℕ
step_up None to = 0
step_up (Some from) None = 0
step_up (Some from) (Some to) = upward (to -ℤ from)

-- "Climb is the sum of upward steps between successive corrected altitudes", in cm
unfoldable pub climb_after : List ℕ → List ℕ → List ℤ → ℕ → ℕ
climb_after states speeds altitudes =
    after_first (λ i climb. climb + step_up (corrected_after states speeds altitudes i) (corrected_after states speeds altitudes (suc i))) 0

-- the climb of a whole trip, and whether one of its corrected altitudes is too high
unfoldable pub climb_of : List ℕ → List ℕ → List ℤ → Climbed
climb_of states speeds altitudes =
    record {
      climb = climb_after states speeds altitudes (length states);
      high = ltb 0 (how_many (high_after states speeds altitudes) (length states));
    }

-- "300 times climb not below total S"
abbrev pub climb_times : ℕ
climb_times = 300

unfoldable pub steep : ℕ → ℕ → Bool
steep climb s = leb s (climb_times * climb)
