-- The tallies: "for each of three bins, seconds, distance, CO2 and NOx (masses of state 1 only)", and "the trip's totals".
use Rattle.std.specs.Prelude.{ℕ, Bool, List, eqb, length, get_or}
use Rattle.base.specs.Second.{measured}
use Rattle.base.specs.Words.{pick, sum_over, how_many}
use Rattle.tally.specs.Sets.{is_present, is_in_bin}
use Rattle.tally.specs.declared.Tally.{Tally}

-- "masses of state 1 only"
abbrev pub mass_of : ℕ → ℕ → ℕ
mass_of state mass = pick (eqb state measured) mass 0

-- no second
abbrev pub no_seconds : Tally
no_seconds = record { seconds = 0; distance = 0; co2 = 0; nox = 0 }

module _ (states speeds co2 nox : List ℕ) where
  -- those of the first i seconds that are in a set; "Distance of a set of seconds: the sum S of its speeds"
  unfoldable pub tally_over : (ℕ → Bool) → ℕ → Tally
  tally_over in_set i =
      record {
        seconds = how_many in_set i;
        distance = sum_over in_set (λ k. get_or speeds k 0) i;
        co2 = sum_over in_set (λ k. mass_of (get_or states k 0) (get_or co2 k 0)) i;
        nox = sum_over in_set (λ k. mass_of (get_or states k 0) (get_or nox k 0)) i;
      }

  -- a bin's
  abbrev pub bin_tally : ℕ → Tally
  bin_tally bin = tally_over (is_in_bin states speeds bin) (length states)

  -- the trip's: of all seconds that have values
  abbrev pub whole_tally : Tally
  whole_tally = tally_over (is_present states) (length states)
