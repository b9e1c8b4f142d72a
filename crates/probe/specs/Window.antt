-- A window of any figures: its class and whether it is inside, where it can be judged.
use Rattle.std.specs.Prelude.{ℕ, Bool, true, false, ◌&&◌, leb}
use Rattle.base.specs.declared.Plan.{Plan}
use Rattle.base.specs.Plan.{plan_in_range}
use Rattle.base.specs.Words.{pick}
use Rattle.windows.specs.Figure.{Figure, figure_of}
use Rattle.windows.specs.Inside.{window_most}
use Rattle.probe.specs.declared.WindowProbe.{WindowProbe}

-- a window has seconds, no more than the comparisons have room for, moves and weighs something
abbrev pub window_in_range : ℕ → ℕ → ℕ → Bool
window_in_range s m n = leb 1 n && leb n window_most && leb 1 s && leb 1 m

abbrev pub judged_as : Figure → WindowProbe
judged_as figure = record { judged = true; inside = figure.inside; class = figure.class }

abbrev pub not_judged : WindowProbe
not_judged = record { judged = false; inside = false; class = 0 }

-- a window is judged where the plan is in range and the window is
unfoldable pub window_probe : Plan → ℕ → ℕ → ℕ → WindowProbe
window_probe plan s m n =
    pick (plan_in_range plan) (pick (window_in_range s m n) (judged_as (figure_of plan s m n)) not_judged) not_judged
