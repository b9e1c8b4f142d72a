-- The numbers of the sixteen reasons. Both ends of a range are in it.
use Rattle.std.specs.Prelude.{ℕ}

-- shares are in percent
abbrev pub percent : ℕ
percent = 100

-- 0: "n outside 5,400 to 7,200"
abbrev pub trip_least : ℕ
trip_least = 5_400

abbrev pub trip_most : ℕ
trip_most = 7_200

-- 1: "100 times missing not below n, or over 30 missing in a row"
abbrev pub missing_times : ℕ
missing_times = 100

abbrev pub gap_most : ℕ
gap_most = 30

-- 2: "a part's S below 5,760,000"
abbrev pub distance_least : ℕ
distance_least = 5_760_000

-- 3: "a part's share of S outside, in percent, urban 29 to 44, rural and motorway 23 to 43"
abbrev pub urban_share_least : ℕ
urban_share_least = 29

abbrev pub urban_share_most : ℕ
urban_share_most = 44

abbrev pub other_share_least : ℕ
other_share_least = 23

abbrev pub other_share_most : ℕ
other_share_most = 43

-- 4: "urban mean outside 1,500 to 4,000"
abbrev pub urban_mean_least : ℕ
urban_mean_least = 1_500

abbrev pub urban_mean_most : ℕ
urban_mean_most = 4_000

-- 5: "urban seconds below 100 not 6 to 30 percent of urban seconds"
abbrev pub slow_share_least : ℕ
slow_share_least = 6

abbrev pub slow_share_most : ℕ
slow_share_most = 30

-- 6: "fewer than 300 seconds above 10,000"
abbrev pub fast_least : ℕ
fast_least = 300

-- 7: ".., or seconds above 14,500 over 3 percent of motorway seconds"
abbrev pub faster_share_most : ℕ
faster_share_most = 3
