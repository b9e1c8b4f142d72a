-- What the verdict of an accepted trip says: each bit the rule of its reason, in the paper's words on the trip's own lanes, and zero that no
-- rule holds. Assumes nothing.
use Prim.Native.Nat.{ℕ, ◌*◌, ◌≤◌}
use mathlib.Core.Path.{◌≡◌, refl, sym, ◌∙◌}
use mathlib.Core.Bool.{Bool, true, false, not, ◌||◌, true≢false}
use mathlib.Core.List.{[], ◌∷◌}
use mathlib.Core.Logic.{◌↔◌}
use borrow.Author.Tests.{ltb-false, leb-true, le-ltb, le-leb, not-true}
use lib.Dec.{leb, ltb}
use Rattle.std.specs.Bool.{Decides}
use Rattle.std.proofs.lemmas.Bool.Decides.{Decides-and, Decides-or, Decides-like, Decides-ltb, Decides-eqb}
use Rattle.base.specs.declared.Plan.{Plan}
use Rattle.base.specs.Roads.{urban, rural, motorway}
use Rattle.second.specs.Lanes.{Lanes, seconds_in}
use Rattle.tally.specs.Numbers.{fastest_above}
use Rattle.tally.specs.Sets.{is_above}
use Rattle.tally.specs.Counts.{counts_after}
use Rattle.tally.specs.Facts.{Gap, SomeIn}
use Rattle.tally.proofs.Gaps.{gap_found, gap_counted}
use Rattle.tally.proofs.SomeSecond.{some_in}
use Rattle.climb.specs.Corrected.{high_after}
use Rattle.climb.specs.Climb.{climb_times, steep, climb_of}
use Rattle.climb.specs.Ends.{ends_difference, ends_most}
use Rattle.windows.specs.Counts.{class_count}
use Rattle.found.specs.Found.{found_in}
use Rattle.bins.specs.Bins.{bins_of}
use Rattle.lively.specs.Lively.{too_lively, too_dull}
use Rattle.percentile.specs.Percentile.{fewest}
use Rattle.reasons.specs.Reasons.{Reason, trip_length, missing_seconds, short_part, share_of_distance, urban_mean, slow_seconds, few_fast_seconds, too_fast, ends_apart, too_high, too_much_climb, few_products, lively_bin, dull_bin, no_windows, outside_band, is_outside, share_is_outside, holds}
use Rattle.reasons.specs.Numbers.{percent, trip_least, trip_most, missing_times, gap_most, distance_least, urban_share_least, urban_share_most, other_share_least, other_share_most, urban_mean_least, urban_mean_most, slow_share_least, slow_share_most, fast_least, faster_share_most}
use Rattle.verdict.specs.Verdict.{bit_set, bit_number, mask_of, has_any, verdict}
use Rattle.verdict.proofs.Laws.{bit_is, mask_tests, zero_exactly}
use Rattle.trip.specs.declared.Rooms.{Rooms}
use Rattle.trip.specs.Trip.{figures_from, answer_from, figures, evaluated}
use Rattle.trip.specs.Rules.{Outside, ShareOutside, n, counts, N, S, M, T, Q, total_s, windows_of, inside_of, OneOf, speeds_kept, co2_kept, Holds}
use Rattle.trip.proofs.Passed.{Accepted}

-- ---- the words of the rules
at_most : (a b : ℕ) → Decides (leb a b) (a ≤ b)
at_most a b = (leb-true a b, le-leb a b)

not_below : (a b : ℕ) → Decides (not (ltb a b)) (b ≤ a)
not_below a b = (λ h. ltb-false a b (not-true _ h), λ h. rw (le-ltb a b h) refl)

itself : (test : Bool) → Decides test (test ≡ true)
itself test = (λ h. h, λ h. h)

says_outside : (low high number : ℕ) → Decides (is_outside low high number) (Outside low high number)
says_outside low high number = Decides-or _ _ (Decides-ltb number low) (Decides-ltb high number)

says_share_outside : (low high whole number : ℕ) → Decides (share_is_outside low high whole number) (ShareOutside low high whole number)
says_share_outside low high whole number = says_outside (low * whole) (high * whole) (percent * number)

says-steep : (climb s : ℕ) → Decides (steep climb s) (s ≤ climb_times * climb)
unfolding steep
says-steep climb s = at_most s (climb_times * climb)

module _ (plan : Plan) (trip : Lanes) where
  says_one : {test : ℕ → Bool} {P : ℕ → Type 0} → ((which : ℕ) → Decides (test which) (P which)) → Decides (test urban || test rural || test motorway) (OneOf plan trip P)
  says_one each = Decides-or _ _ (Decides-or _ _ (each urban) (each rural)) (each motorway)

  -- ---- what the figures that come of a search say
  -- "over 30 missing in a row": a run of 31 or more, wherever it stands
  long_gap : Decides (ltb gap_most (figures plan trip).counts.gap) (Gap trip.states (seconds_in trip) gap_most)
  unfolding figures_from counts_after
  long_gap =
      Decides-like _ (gap_found trip.states (seconds_in trip) gap_most) (gap_counted trip.states (seconds_in trip) gap_most) (Decides-ltb gap_most _)

  -- "a speed above 16,000"
  fastest : Decides (ltb 0 (figures plan trip).counts.fastest) (SomeIn (is_above trip.states trip.speeds fastest_above) (seconds_in trip))
  unfolding figures_from counts_after
  fastest =
      let found = some_in (is_above trip.states trip.speeds fastest_above) (seconds_in trip) in
      Decides-like _ found.0 found.1 (Decides-ltb 0 _)

  -- "a corrected altitude above 130,000"
  too_high_lem : Decides (figures plan trip).high (SomeIn (high_after trip.states trip.speeds trip.altitudes) (seconds_in trip))
  unfolding figures_from climb_of
  too_high_lem =
      let found = some_in (high_after trip.states trip.speeds trip.altitudes) (seconds_in trip) in
      Decides-like _ found.0 found.1 (Decides-ltb 0 _)

  -- the answer's classes are the counts of the windows of the kept seconds
  pub classes_counted : let count = class_count plan (speeds_kept plan trip) (co2_kept plan trip) in (evaluated plan trip).classes ≡ count urban ∷ count rural ∷ count motorway ∷ []
  unfolding answer_from found_in
  classes_counted = refl

  -- ---- the verdict of an accepted trip
  verdict_is : (evaluated plan trip).verdict ≡ verdict (figures plan trip)
  unfolding answer_from
  verdict_is = refl

  module _ {rooms : Rooms} (ok : Accepted plan trip rooms) where
    -- each reason's test of the figures says its rule on the lanes
    rule_says : (reason : Reason) → Decides (holds reason (figures plan trip)) (Holds plan trip reason)
    unfolding holds figures_from bins_of climb_of found_in
    rule_says trip_length = says_outside trip_least trip_most (n plan trip)
    rule_says missing_seconds = Decides-or _ _ (at_most (n plan trip) (missing_times * (counts plan trip).missing)) long_gap
    rule_says short_part = says_one (λ bin. Decides-ltb (S plan trip bin) distance_least)
    rule_says share_of_distance =
        Decides-or _ _
        (Decides-or _ _
        (says_share_outside urban_share_least urban_share_most (total_s plan trip) (S plan trip urban))
        (says_share_outside other_share_least other_share_most (total_s plan trip) (S plan trip rural)))
        (says_share_outside other_share_least other_share_most (total_s plan trip) (S plan trip motorway))
    rule_says urban_mean = says_outside (urban_mean_least * N plan trip urban) (urban_mean_most * N plan trip urban) (S plan trip urban)
    rule_says slow_seconds = says_share_outside slow_share_least slow_share_most (N plan trip urban) (counts plan trip).slow
    rule_says few_fast_seconds = Decides-ltb (counts plan trip).fast fast_least
    rule_says too_fast = Decides-or _ _ fastest (Decides-ltb (faster_share_most * N plan trip motorway) (percent * (counts plan trip).faster))
    rule_says ends_apart = Decides-ltb ends_most (ends_difference trip.states trip.altitudes)
    rule_says too_high = too_high_lem
    rule_says too_much_climb = says-steep _ (total_s plan trip)
    rule_says few_products = says_one (λ bin. Decides-ltb (M plan trip bin) fewest)
    rule_says lively_bin = says_one (λ bin. Decides-and _ _ (not_below (M plan trip bin) fewest) (itself (too_lively (S plan trip bin) (N plan trip bin) (Q plan trip bin))))
    rule_says dull_bin = says_one (λ bin. Decides-and _ _ (not_below (M plan trip bin) fewest) (itself (too_dull (S plan trip bin) (N plan trip bin) (T plan trip bin))))
    rule_says no_windows = says_one (λ class. Decides-eqb (windows_of plan trip class) 0)
    rule_says outside_band = says_one (λ class. Decides-and _ _ (Decides-ltb 0 (windows_of plan trip class)) (Decides-ltb (2 * inside_of plan trip class) (windows_of plan trip class)))

    -- each bit of the verdict is set exactly when the rule holds of the lanes
    pub bit_exactly : (reason : Reason) → (bit_set (bit_number reason) (evaluated plan trip).verdict ≡ true) ↔ Holds plan trip reason
    bit_exactly reason = rw (verdict_is, bit_is reason (figures plan trip)) (rule_says reason)

    -- a reason is tested by its mask exactly when its rule holds of the lanes
    pub mask_exactly : (reason : Reason) → (has_any (evaluated plan trip).verdict (mask_of reason) ≡ true) ↔ Holds plan trip reason
    mask_exactly reason = rw (mask_tests reason (evaluated plan trip).verdict) (bit_exactly reason)

    -- the trip is valid exactly when none does
    pub valid_on_lanes : ((evaluated plan trip).verdict ≡ 0) ↔ ((reason : Reason) → Holds plan trip reason → ⊥)
    valid_on_lanes =
        (λ zero reason rule. true≢false (sym ((rule_says reason).1 rule) ∙ (zero_exactly (figures plan trip)).0 (sym verdict_is ∙ zero) reason), λ none. verdict_is ∙ (zero_exactly (figures plan trip)).1 (λ reason. fails (holds reason (figures plan trip)) (rule_says reason) (none reason)))
      where
        fails : (t : Bool) {P : Type 0} → Decides t P → (P → ⊥) → t ≡ false
        fails true says never = absurd (never (says.0 refl))
        fails false says never = refl
