-- How the code names the reasons.
use Rattle.reasons.specs.declared.Reason as code
use Rattle.reasons.specs.declared.Reason.TheVariants.{TripLength, MissingSeconds, ShortPart, ShareOfDistance, UrbanMean, SlowSeconds, FewFastSeconds, TooFast, EndsApart, TooHigh, TooMuchClimb, FewProducts, LivelyBin, DullBin, NoWindows, OutsideBand}
use Rattle.reasons.specs.Reasons.{Reason, trip_length, missing_seconds, short_part, share_of_distance, urban_mean, slow_seconds, few_fast_seconds, too_fast, ends_apart, too_high, too_much_climb, few_products, lively_bin, dull_bin, no_windows, outside_band}

-- a reason, by its name in the code
abbrev pub named : code.Reason → Reason
named TripLength = trip_length
named MissingSeconds = missing_seconds
named ShortPart = short_part
named ShareOfDistance = share_of_distance
named UrbanMean = urban_mean
named SlowSeconds = slow_seconds
named FewFastSeconds = few_fast_seconds
named TooFast = too_fast
named EndsApart = ends_apart
named TooHigh = too_high
named TooMuchClimb = too_much_climb
named FewProducts = few_products
named LivelyBin = lively_bin
named DullBin = dull_bin
named NoWindows = no_windows
named OutsideBand = outside_band
