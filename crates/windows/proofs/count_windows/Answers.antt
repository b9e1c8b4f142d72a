-- `windows::count_windows` meets its contract: so far it holds the counts of the first seconds passed, each of which has a window, and the rest
-- have none (`proofs/Counts.antt`). Assumes nothing.
use mathlib.Core.Path.{◌≡◌, sym, ◌∙◌, ap}
use native.Mathlib.Omega.{arith}
use Rattle.sweep.specs.Window.{windows}
use Rattle.windows.specs.Counts.{no_count, window_figure}
use Rattle.windows.specs.Inside.{figure_in}
use Rattle.windows.proofs.PlanRanges.{plan_ranges}
use Rattle.windows.proofs.Counts.{counts_at, counts_none, counts_few, counts_more, counts_all, four, turn, turn_seconds, turn_figure}
use Rattle.windows.proofs.count_windows.Goals as goal

pub loop-first-init : goal.loop-first-init
loop-first-init c =
    let none : c.default-counts.result ≡ no_count = λ i. record { windows = c.default-counts.ensures.0 i; inside = c.default-counts.ensures.1 i } in
    four none none none none ∙ sym (counts_none _ _ _)

pub judge_window-figure-requires : goal.judge_window-figure-requires
judge_window-figure-requires c =
    turn_seconds _ _ _ _ c.requires c.loop-first.first c.loop-first-test.true

pub with_window-requires : goal.with_window-requires
with_window-requires c =
    let l = c.loop-first in
    let a = c.args in
    let class = c.counted_as-class.result.0 in
    rw l.invariant (omega (arith, counts_few a.plan a.speeds.now a.co2.now l.first class, turn _ _ _ _ c.requires l.first c.loop-first-test.true))

pub loop-first-preserved : goal.loop-first-preserved
loop-first-preserved c =
    let l = c.loop-first in
    let a = c.args in
    let here = turn _ _ _ _ c.requires l.first c.loop-first-test.true in
    let judged : figure_in c.judge_window-figure.result ≡ window_figure a.plan a.speeds.now a.co2.now l.first = c.judge_window-figure.ensures ∙ turn_figure _ _ _ _ c.requires l.first c.loop-first-test.true in
    rw (c.with_window.ensures, c.counted_as-class.ensures.0, c.counted_as-class.ensures.1, judged, l.invariant)
    (counts_more a.plan a.speeds.now a.co2.now l.first here.has)

pub returns : goal.returns
returns c =
    let l = c.loop-first in
    let all : l.first ≡ windows c.args.plan.reference c.args.co2.now = omega (arith, c.requires.all) in
    l.invariant ∙ ap (counts_at _ _ _) all ∙ counts_all _ _ _ (plan_ranges _ c.requires.plan_is_in_range).reference_least
