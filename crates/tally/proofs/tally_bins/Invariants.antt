-- `tally::tally_bins` meets its contract: the bins are those of the first i seconds, since a second more changes the tally of its bin.
-- Assumes nothing.
use mathlib.Core.Path.{◌≡◌}
use Rattle.tally.specs.Inside.{bin_tallies_after, added, Room}
use Rattle.tally.proofs.tally_bins.Given as goal

abbrev pub invariant-loop-i : goal.invariant-loop-i
invariant-loop-i l =
    (l.bins ≡ bin_tallies_after l.trip.states.now l.trip.speeds.now l.trip.co2.now l.trip.nox.now l.i) × Room (added l.bins)
