-- `probe::probe_window` meets its contract: its tests are the definition's, in its order, and where both pass the window can be judged. Assumes nothing.
use mathlib.Core.Path.{sym, ◌∙◌}
use mathlib.Core.Bool.{◌&&◌, and-eq-true_iff}
use borrow.Author.Tests.{leb-true}
use lib.Dec.{leb}
use Rattle.windows.specs.Inside.{window_most}
use Rattle.probe.specs.Window.{window_probe}
use Rattle.probe.proofs.probe_window.Goals as goal

pub returns-then-not-plan_in_range : goal.returns-then-not-plan_in_range
unfolding window_probe
returns-then-not-plan_in_range c =
    rw (← c.plan_in_range.ensures, c.if-not-plan_in_range.true)

pub returns-then-not-window_in_range : goal.returns-then-not-window_in_range
unfolding window_probe
returns-then-not-window_in_range c =
    rw (← c.plan_in_range.ensures, c.if-not-plan_in_range.false, ← c.window_in_range.ensures, c.if-not-window_in_range.true)

pub invariant_of-window : goal.invariant_of-window
invariant_of-window c =
    let s = c.args.s in
    let m = c.args.m in
    let n = c.args.n in
    let fine = sym c.window_in_range.ensures ∙ c.if-not-window_in_range.false in
    let first = (and-eq-true_iff (leb 1 n && leb n window_most && leb 1 s) (leb 1 m)).0 fine in
    let second = (and-eq-true_iff (leb 1 n && leb n window_most) (leb 1 s)).0 first.0 in
    let third = (and-eq-true_iff (leb 1 n) (leb n window_most)).0 second.0 in
    record { lasts = leb-true 1 n third.0; few = leb-true n window_most third.1; moves = leb-true 1 s second.1; weighs = leb-true 1 m first.1 }

pub returns : goal.returns
unfolding window_probe
returns c =
    rw (← c.plan_in_range.ensures, c.if-not-plan_in_range.false, ← c.window_in_range.ensures, c.if-not-window_in_range.false, c.counted_as-class.ensures.0, c.counted_as-class.ensures.1, c.judge.ensures)
