-- "The verdict is a sixteen-bit number, a bit per reason, zero meaning valid."
use Rattle.std.specs.Prelude.{ℕ, ◌/◌, ◌%◌, ◌^◌, Bool, not, map, eqb}
use Rattle.std.specs.Int.Bits.{bit_and}
use Rattle.base.specs.Words.{pick, sum}
use Rattle.reasons.specs.declared.Figures.{Figures}
use Rattle.reasons.specs.Reasons.{Reason, trip_length, missing_seconds, short_part, share_of_distance, urban_mean, slow_seconds, few_fast_seconds, too_fast, ends_apart, too_high, too_much_climb, few_products, lively_bin, dull_bin, no_windows, outside_band, all_reasons, holds}

-- the number of a reason's bit
abbrev pub bit_number : Reason → ℕ
bit_number trip_length = 0
bit_number missing_seconds = 1
bit_number short_part = 2
bit_number share_of_distance = 3
bit_number urban_mean = 4
bit_number slow_seconds = 5
bit_number few_fast_seconds = 6
bit_number too_fast = 7
bit_number ends_apart = 8
bit_number too_high = 9
bit_number too_much_climb = 10
bit_number few_products = 11
bit_number lively_bin = 12
bit_number dull_bin = 13
bit_number no_windows = 14
bit_number outside_band = 15

-- "masks set and test each reason": the mask of a reason is its bit alone
abbrev pub mask_of : Reason → ℕ
mask_of reason = 2 ^ bit_number reason

-- the bits of all reasons that hold
unfoldable pub verdict : Figures → ℕ
verdict f = sum (map (λ reason. pick (holds reason f) (mask_of reason) 0) all_reasons)

-- bit k of a number is set
abbrev pub bit_set : ℕ → ℕ → Bool
bit_set k number = eqb (number / 2 ^ k % 2) 1

-- a number has any of the bits of a mask
abbrev pub has_any : ℕ → ℕ → Bool
has_any number mask = not (eqb (bit_and number mask) 0)
