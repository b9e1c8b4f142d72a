-- `percentile::copy` meets its contract: after i turns the lane begins with the first i values. Assumes nothing.
use Prim.Native.Nat.{◌≤◌}
use mathlib.Core.Path.{◌≡◌}
use mathlib.Core.List.{◌++◌}
use lib.ListN.{length, take, drop}
use Rattle.percentile.proofs.copy.Given as goal

abbrev pub invariant-loop-i : goal.invariant-loop-i
invariant-loop-i l = (l.i ≤ length l.values) × (l.lane ≡ take l.i l.values ++ drop l.i l.initial.lane) × (length l.lane ≡ length l.initial.lane)
