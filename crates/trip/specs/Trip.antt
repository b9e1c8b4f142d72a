-- A whole trip: its figures and its answer.
use Rattle.std.specs.Prelude.{ℕ, List, ℤ, length}
use Rattle.base.specs.declared.Plan.{Plan}
use Rattle.base.specs.Refusal.{Fault, accepted}
use Rattle.base.specs.Roads.{of_each}
use Rattle.base.specs.Words.{pick}
use Rattle.second.specs.Lanes.{Lanes}
use Rattle.windows.specs.Counts.{no_count}
use Rattle.tally.specs.Tally.{no_seconds}
use Rattle.tally.specs.Counts.{counts_of}
use Rattle.climb.specs.Climb.{climb_of}
use Rattle.climb.specs.Ends.{ends_apart}
use Rattle.reasons.specs.declared.Figures.{Figures}
use Rattle.verdict.specs.Verdict as verdicts
use Rattle.found.specs.declared.Found.{Found}
use Rattle.found.specs.Found.{found_of}
use Rattle.bins.specs.declared.Bins.{Bins}
use Rattle.bins.specs.Bins.{no_bin, bins_of}
use Rattle.trip.specs.declared.Rooms.{Rooms}
use Rattle.trip.specs.declared.Evaluated.{Evaluated}
use Rattle.trip.specs.Refusals.{trip_fault, is_accepted}

module _ (states speeds : List ℕ) (altitudes : List ℤ) (found : Found) (bins : Bins) where
  -- what the sixteen reasons are judged from, where these are the trip's windows and bins
  unfoldable pub figures_from : Figures
  figures_from =
      record {
        seconds = length states;
        counts = counts_of states speeds;
        distance = bins.total.distance;
        apart = ends_apart states altitudes;
        high = (climb_of states speeds altitudes).high;
        climb = (climb_of states speeds altitudes).climb;
        bins = bins.each;
        classes = found.classes;
      }

  -- "The trip answer also has the counts of the printed lines 1 and 2 and, for each of three bins, .."
  unfoldable pub answer_from : Evaluated
  answer_from =
      record {
        refusal = accepted;
        place = 0;
        seconds = figures_from.seconds;
        missing = figures_from.counts.missing;
        kept = found.kept;
        windows = found.windows;
        moves = found.moves;
        bins = bins.each;
        total = bins.total;
        climb = figures_from.climb;
        classes = found.classes;
        verdict = verdicts.verdict figures_from;
      }

module _ (plan : Plan) (trip : Lanes) where
  -- the windows and the bins of a trip
  abbrev pub found : Found
  found = found_of plan trip.states trip.speeds trip.co2

  abbrev pub bins : Bins
  bins = bins_of trip.states trip.speeds trip.co2 trip.nox

  -- the figures that the verdict is judged from
  abbrev pub figures : Figures
  figures = figures_from trip.states trip.speeds trip.altitudes found bins

  -- the answer for a trip that is not refused
  abbrev pub evaluated : Evaluated
  evaluated = answer_from trip.states trip.speeds trip.altitudes found bins

-- "A refusal returns its number and a place .., with all other results zero"
unfoldable pub refused : Fault → Evaluated
refused fault =
    record {
      refusal = fault.number;
      place = fault.place;
      seconds = 0;
      missing = 0;
      kept = 0;
      windows = 0;
      moves = 0;
      bins = of_each (λ bin. no_bin);
      total = no_seconds;
      climb = 0;
      classes = of_each (λ class. no_count);
      verdict = 0;
    }

-- the answer of the call
unfoldable pub answer_of : Plan → Lanes → Rooms → Evaluated
answer_of plan trip rooms = pick (is_accepted plan trip rooms) (evaluated plan trip) (refused (trip_fault plan trip rooms))
