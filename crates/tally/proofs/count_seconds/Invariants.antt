-- `tally::count_seconds` meets its contract: the counts and the gap are those of the first i seconds. Assumes nothing.
use mathlib.Core.Path.{◌≡◌}
use Rattle.tally.specs.Counts.{counts_after, gap_after}
use Rattle.tally.proofs.count_seconds.Given as goal

abbrev pub invariant-loop-i : goal.invariant-loop-i
invariant-loop-i l = (l.counts ≡ counts_after l.trip.states.now l.trip.speeds.now l.i) × (l.gap ≡ gap_after l.trip.states.now l.i)
