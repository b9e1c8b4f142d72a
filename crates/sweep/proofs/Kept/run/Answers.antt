-- `sweep::Kept::run` meets its contract: the run from the start is the run of what is left of the budget from where the sweep stands, and a sweep
-- that is over stays as it is. Assumes nothing.
use Prim.Native.Nat.{◌+◌, ◌-◌, ◌<◌}
use mathlib.Core.Path.{◌≡◌, sym, ◌∙◌, ap}
use native.Mathlib.Omega.{arith}
use Rattle.sweep.specs.declared.SweepState.{SweepState}
use Rattle.sweep.specs.Sweep.{after_moves, ends_after}
use Rattle.sweep.proofs.Moves.{after_first, ends_first, over_rests, over_keeps, over-after, over_ends, ready_move, idle}
use Rattle.sweep.proofs.Kept.run.Goals as goal

pub returns-then-next-state : goal.returns-then-next-state
returns-then-next-state c =
    let l = c.loop-made in
    let call = c.one_move-next in
    let left = c.args.budget - l._made in
    let over = idle _ _ l.state (sym (ap (λ (v : SweepState). v.moves) call.ensures.0) ∙ c.if-next-state.true) in (
      call.ensures.0 ∙ over_rests _ _ l.state over ∙ sym (l.invariant.1 ∙ over-after _ _ l.state over left),
      call.ensures.1 ∙ over_keeps _ _ l.state over l.ends ∙ sym (l.invariant.2 ∙ over_ends _ _ l.state over left l.ends),
    )

pub loop-made-preserved : goal.loop-made-preserved
loop-made-preserved c =
    let l = c.loop-made in
    let a = c.args in
    let call = c.one_move-next in
    let left = a.budget - l._made in
    let less : a.budget - (l._made + 1) ≡ left - 1 = omega arith in
    let some : 0 < left = omega arith in (
      rw call.ensures.0 (ready_move _ _ l.state l.invariant.0 call.auto.ends),
      rw less (rw call.ensures.0 (l.invariant.1 ∙ after_first _ _ left l.state some)),
      rw less (rw (call.ensures.0, call.ensures.1) (l.invariant.2 ∙ ends_first _ _ left l.state l.ends some)),
    )

pub returns : goal.returns
unfolding after_moves ends_after
returns c =
    let l = c.loop-made in
    let none : c.args.budget - l._made ≡ 0 = omega arith in
    (sym (rw none at l.invariant.1), sym (rw none at l.invariant.2))
