-- `windows::count_windows` meets its contract: so far it holds the counts of the first seconds passed, each of which has a window, and the rest
-- have none (`proofs/Counts.antt`). Assumes nothing.
use mathlib.Core.Path.{◌≡◌}
use Rattle.windows.proofs.Counts.{counts_at}
use Rattle.windows.proofs.count_windows.Given as goal

abbrev pub invariant-loop-first : goal.invariant-loop-first
invariant-loop-first l = l.counts ≡ counts_at l.plan l.speeds l.co2 l.first
