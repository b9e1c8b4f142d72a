-- Recorded and corrected altitudes (Appendix 7b, first edition).
use Rattle.std.specs.Prelude.{ℕ, zero, suc, ◌*◌, Bool, false, Option, Some, None, List, ltb, ℤ, pos, nat_abs, ◌-ℤ◌, get_or}
use Rattle.std.specs.Int.Signed.{lt_z}
use Rattle.base.specs.Words.{pick, after_first}
use Rattle.second.specs.Row.{has_values}

-- an altitude in cm, or that there is none
abbrev pub Altitude : Type 0
Altitude = Option ℤ

-- the altitude recorded in second i; none where the second is missing
unfoldable pub recorded_at : List ℕ → List ℤ → ℕ → Altitude
recorded_at states altitudes i = pick (has_values (get_or states i 0)) (Some (get_or altitudes i (pos 0))) None

-- the altitude recorded in the second before second i; none before the first second
unfoldable pub recorded_before : List ℕ → List ℤ → ℕ → Altitude
recorded_before states altitudes zero = None
recorded_before states altitudes (suc i) = recorded_at states altitudes i

-- "with d the change of recorded altitude from the second before and s this second's speed, if 648d² > 25s²"
unfoldable pub jumps : ℤ → ℕ → Bool
jumps d s = ltb (25 * (s * s)) (648 * (nat_abs d * nat_abs d))

-- the corrected altitude after a second, from the previous corrected one, what the second before recorded, what the second
-- itself recorded, and its speed
unfoldable pub corrected : Altitude → Altitude → Altitude → ℕ → Altitude
-- "missing seconds passed over"
corrected previous before None s = previous
-- "The first second with an altitude, and the first after a missing one, stand as recorded."
corrected previous None (Some recorded) s = Some recorded
-- "Otherwise, .. if 648d² > 25s² the corrected altitude is the previous corrected one, else the recorded one."
corrected previous (Some before) (Some recorded) s = pick (jumps (recorded -ℤ before) s) previous (Some recorded)

-- the corrected altitude after the first i seconds; none before the first that has an altitude
unfoldable pub corrected_after : List ℕ → List ℕ → List ℤ → ℕ → Altitude
corrected_after states speeds altitudes =
    after_first (λ i previous. corrected previous (recorded_before states altitudes i) (recorded_at states altitudes i) (get_or speeds i 0)) None

-- "a corrected altitude above 130,000"
abbrev pub highest_altitude : ℕ
highest_altitude = 130_000

unfoldable pub is_high : Altitude → Bool
is_high None = false
is_high (Some altitude) = lt_z (pos highest_altitude) altitude

-- the corrected altitude after second i is too high
abbrev pub high_after : List ℕ → List ℕ → List ℤ → ℕ → Bool
high_after states speeds altitudes i = is_high (corrected_after states speeds altitudes (suc i))
