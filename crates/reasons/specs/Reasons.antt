-- The sixteen reasons: when each holds, by the trip's figures.
use Rattle.std.specs.Prelude.{ℕ, ◌*◌, Bool, not, ◌&&◌, ◌||◌, List, [], ◌∷◌, leb, ltb, eqb, get_or}
use Rattle.base.specs.Roads.{urban, rural, motorway}
use Rattle.climb.specs.Climb.{steep}
use Rattle.lively.specs.Lively.{too_lively, too_dull}
use Rattle.percentile.specs.Percentile.{fewest}
use Rattle.bins.specs.declared.Bin.{Bin}
use Rattle.bins.specs.Bins.{no_bin}
use Rattle.windows.specs.declared.ClassCount.{ClassCount}
use Rattle.reasons.specs.declared.Figures.{Figures}
use Rattle.reasons.specs.Numbers.{percent, trip_least, trip_most, missing_times, gap_most, distance_least, urban_share_least, urban_share_most, other_share_least, other_share_most, urban_mean_least, urban_mean_most, slow_share_least, slow_share_most, fast_least, faster_share_most}

pub data Reason : Type 0 where
  trip_length missing_seconds short_part share_of_distance urban_mean slow_seconds few_fast_seconds too_fast : Reason
  ends_apart too_high too_much_climb few_products lively_bin dull_bin no_windows outside_band : Reason

-- all of them, in the order of their bits
abbrev pub all_reasons : List Reason
all_reasons =
    trip_length
    ∷ missing_seconds
    ∷ short_part
    ∷ share_of_distance
    ∷ urban_mean
    ∷ slow_seconds
    ∷ few_fast_seconds
    ∷ too_fast
    ∷ ends_apart
    ∷ too_high
    ∷ too_much_climb
    ∷ few_products
    ∷ lively_bin
    ∷ dull_bin
    ∷ no_windows
    ∷ outside_band
    ∷ []

-- a bin and a class of the figures; "Parts are the bins"
abbrev pub bin : Figures → ℕ → Bin
bin f which = get_or f.bins which no_bin

abbrev pub class : Figures → ℕ → ClassCount
class f which = get_or f.classes which (record { windows = 0; inside = 0 })

-- "a part's", "a bin": one of the three; "a class": one of the three
abbrev pub a_bin : (Bin → Bool) → Figures → Bool
a_bin test f = test (bin f urban) || test (bin f rural) || test (bin f motorway)

abbrev pub a_class : (ClassCount → Bool) → Figures → Bool
a_class test f = test (class f urban) || test (class f rural) || test (class f motorway)

-- "Ranges include their ends."
abbrev pub is_outside : ℕ → ℕ → ℕ → Bool
is_outside low high number = ltb number low || ltb high number

-- a number outside low to high percent of a whole
abbrev pub share_is_outside : ℕ → ℕ → ℕ → ℕ → Bool
share_is_outside low high whole number = is_outside (low * whole) (high * whole) (percent * number)

-- "a bin with M below 100 (that bin is judged for neither 12 nor 13)"
abbrev pub has_few : Bin → Bool
has_few b = ltb b.m fewest

-- "a bin too lively", "a bin too dull"
abbrev pub is_lively : Bin → Bool
is_lively b = not (has_few b) && too_lively b.distance b.seconds b.q

abbrev pub is_dull : Bin → Bool
is_dull b = not (has_few b) && too_dull b.distance b.seconds b.t

-- "a class with windows, under half inside"
abbrev pub under_half : ClassCount → Bool
under_half c = ltb 0 c.windows && ltb (2 * c.inside) c.windows

unfoldable pub holds : Reason → Figures → Bool
-- 0: "n outside 5,400 to 7,200"
holds trip_length f = is_outside trip_least trip_most f.seconds
-- 1: "100 times missing not below n, or over 30 missing in a row"
holds missing_seconds f = leb f.seconds (missing_times * f.counts.missing) || ltb gap_most f.counts.gap
-- 2: "a part's S below 5,760,000"
holds short_part f = a_bin (λ b. ltb b.distance distance_least) f
-- 3: "a part's share of S outside, in percent, urban 29 to 44, rural and motorway 23 to 43"
holds share_of_distance f =
    share_is_outside urban_share_least urban_share_most f.distance (bin f urban).distance
    || share_is_outside other_share_least other_share_most f.distance (bin f rural).distance
    || share_is_outside other_share_least other_share_most f.distance (bin f motorway).distance
-- 4: "urban mean outside 1,500 to 4,000"
holds urban_mean f = is_outside (urban_mean_least * (bin f urban).seconds) (urban_mean_most * (bin f urban).seconds) (bin f urban).distance
-- 5: "urban seconds below 100 not 6 to 30 percent of urban seconds"
holds slow_seconds f = share_is_outside slow_share_least slow_share_most (bin f urban).seconds f.counts.slow
-- 6: "fewer than 300 seconds above 10,000"
holds few_fast_seconds f = ltb f.counts.fast fast_least
-- 7: "a speed above 16,000, or seconds above 14,500 over 3 percent of motorway seconds"
holds too_fast f = ltb 0 f.counts.fastest || ltb (faster_share_most * (bin f motorway).seconds) (percent * f.counts.faster)
-- 8: "first and last recorded altitude differ by over 10,000"
holds ends_apart f = f.apart
-- 9: "a corrected altitude above 130,000"
holds too_high f = f.high
-- 10: "300 times climb not below total S"
holds too_much_climb f = steep f.climb f.distance
-- 11: "a bin with M below 100"
holds few_products f = a_bin has_few f
-- 12: "a bin too lively"
holds lively_bin f = a_bin is_lively f
-- 13: "a bin too dull"
holds dull_bin f = a_bin is_dull f
-- 14: "a class without windows"
holds no_windows f = a_class (λ c. eqb c.windows 0) f
-- 15: "a class with windows, under half inside"
holds outside_band f = a_class under_half f
