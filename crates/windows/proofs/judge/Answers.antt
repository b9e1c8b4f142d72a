-- `windows::judge` meets its contract: it finds the definition's class, curve and band; a mean that has a class keeps the curve in its bounds. Assumes nothing.
use mathlib.Core.Path.{◌∙◌}
use borrow.Author.Tests.{eqb-false}
use Rattle.windows.specs.Figure.{figure_of}
use Rattle.windows.proofs.Classes.{has_class, is_classed}
use Rattle.windows.proofs.PlanRanges.{plan_ranges}
use Rattle.windows.proofs.judge.Goals as goal

pub returns-in_err-class : goal.returns-in_err-class
unfolding figure_of
returns-in_err-class c =
    rw (c.from_residual.ensures, ← c.in_err-class.ensures)

pub curve-curve-requires : goal.curve-curve-requires
curve-curve-requires c =
    let class = c.in_ok-class in
    (c.requires, has_class _ _ (λ e. eqb-false _ _ (is_classed class.class) (class.ensures ∙ e)))

pub in_band-inside-requires : goal.in_band-inside-requires
in_band-inside-requires c =
    (plan_ranges _ c.requires).lower_most

pub returns : goal.returns
unfolding figure_of
returns c =
    let class = c.in_ok-class in
    rw (c.in_band-inside.ensures, c.upper_of.ensures, c.curve-curve.ensures, ← class.ensures, is_classed class.class)
