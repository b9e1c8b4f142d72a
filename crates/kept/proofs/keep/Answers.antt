-- `kept::keep` meets its contract: after i seconds each lane begins with the values of those kept, and the rest of it is as it was.
-- Assumes nothing.
use mathlib.Core.Path.{◌≡◌, sym, ◌∙◌}
use native.Mathlib.Omega.{arith}
use lib.ListN.{length}
use Rattle.kept.proofs.Keeping.{front_none, front_same, front_more}
use Rattle.kept.proofs.keep.Goals as goal
use Rattle.kept.proofs.keep.Goals.{then-is_kept, else-is_kept}

pub loop-i-init : goal.loop-i-init
loop-i-init c =
    (front_none _ _ _ _, front_none _ _ _ _)

pub loop-i-preserved : goal.loop-i-preserved
loop-i-preserved c =
    let l = c.loop-i in
    elim c.if-is_kept.branch [
      | then-is_kept w ↦ let kept = sym c.is_kept.ensures ∙ w.if-is_kept.true in
          rw (w.kept_speeds-is, w.kept_co2-is, w.count-is) (front_more _ _ l.invariant.0 kept (omega (arith, c.requires.speeds_room)), front_more _ _ l.invariant.1 kept (omega (arith, c.requires.co2_room)))
      | else-is_kept w ↦ let left = sym c.is_kept.ensures ∙ w.if-is_kept.false in
          rw (w.kept_speeds-is, w.kept_co2-is, w.count-is) (front_same _ _ l.invariant.0 left, front_same _ _ l.invariant.1 left)
    ]

pub returns : goal.returns
returns c =
    let l = c.loop-i in
    let all : l.i ≡ length c.args.trip.now.states.now = omega arith in
    (rw (sym all) l.invariant.1.counted, rw (sym all) l.invariant.0.stored, rw (sym all) l.invariant.1.stored)
