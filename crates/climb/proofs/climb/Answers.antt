-- `climb::climb` meets its contract: after i seconds each variable is what the definition has there, and the climb is below 2 ^ 32 a
-- second. Assumes nothing.
use mathlib.Core.Path.{◌≡◌, refl, sym}
use Prim.Native.Nat.{◌+◌}
use Rattle.climb.specs.Corrected.{corrected_after}
use lib.ListN.{length}
use native.Mathlib.Omega.{arith}
use Rattle.climb.specs.Climb.{climb_of}
use Rattle.climb.proofs.Altitudes.{before_none, before_more, corrected_none, corrected_more, high_none, high_more}
use Rattle.climb.proofs.Steps.{climb_none, climb_more}
use Rattle.climb.proofs.climb.Goals as goal

pub loop-i-init : goal.loop-i-init
loop-i-init c = (sym (before_none _ _), sym (corrected_none _ _ _), sym (climb_none _ _ _), sym (high_none _ _ _), omega arith, tt)

pub loop-i-preserved : goal.loop-i-preserved
loop-i-preserved c =
    let l = c.loop-i in
    let states = c.args.trip.now.states.now in
    let speeds = c.args.trip.now.speeds.now in
    let altitudes = c.args.trip.now.altitudes.now in
    let next : c.corrected_from-next.result ≡ corrected_after states speeds altitudes (l.i + 1) = cc (corrected_more states speeds altitudes l.i) in
    (cc (before_more states altitudes l.i), next, cc (climb_more states speeds altitudes l.i), rw (high_more states speeds altitudes l.i, ← next, ← l.invariant.3, c.is_high-high.ensures) refl, omega arith, c.recorded_at-recorded.ensures.within)

pub returns : goal.returns
unfolding climb_of
returns c =
    let end : c.loop-i.i ≡ length c.args.trip.now.states.now = omega arith in
    rw (c.loop-i.invariant.2, c.loop-i.invariant.3, end) refl
