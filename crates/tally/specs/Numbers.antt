-- The speeds that the counts ask for, in 0.01 km/h.
use Rattle.std.specs.Prelude.{ℕ}

-- "urban seconds below 100"
abbrev pub slow_below : ℕ
slow_below = 100

-- "seconds above 10,000"
abbrev pub fast_above : ℕ
fast_above = 10_000

-- "seconds above 14,500"
abbrev pub faster_above : ℕ
faster_above = 14_500

-- "a speed above 16,000"
abbrev pub fastest_above : ℕ
fastest_above = 16_000
