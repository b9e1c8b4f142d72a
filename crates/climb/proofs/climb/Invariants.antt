-- `climb::climb` meets its contract: after i seconds each variable is what the definition has there, and the climb is below 2 ^ 32 a
-- second. Assumes nothing.
use Prim.Native.Nat.{◌*◌, ◌^◌, ◌≤◌}
use mathlib.Core.Path.{◌≡◌}
use lib.Dec.{ltb}
use Rattle.base.specs.Words.{how_many}
use Rattle.climb.specs.Corrected.{recorded_before, corrected_after, high_after}
use Rattle.climb.specs.Climb.{climb_after}
use Rattle.climb.specs.Inside.{Within}
use Rattle.climb.proofs.climb.Given as goal

abbrev pub invariant-loop-i : goal.invariant-loop-i
invariant-loop-i l =
    let states = l.trip.states.now in
    let speeds = l.trip.speeds.now in
    let altitudes = l.trip.altitudes.now in
    (l.before ≡ recorded_before states altitudes l.i) × (l.last ≡ corrected_after states speeds altitudes l.i) × (l.climb ≡ climb_after states speeds altitudes l.i) × (l.high ≡ ltb 0 (how_many (high_after states speeds altitudes) l.i)) × (l.climb ≤ 2 ^ 32 * l.i) × Within l.before
