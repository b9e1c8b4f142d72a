-- The counts of windows and of windows inside, class by class; what a window is comes from the sweep's definitions, not from the sweep.
use Rattle.std.specs.Prelude.{ℕ, Bool, ◌&&◌, List, eqb, length}
use Rattle.base.specs.declared.Plan.{Plan}
use Rattle.base.specs.Words.{sum, how_many}
use Rattle.sweep.specs.Window.{from_to, window_last, has_window}
use Rattle.windows.specs.declared.ClassCount.{ClassCount}
use Rattle.windows.specs.Figure.{Figure, figure_of}

-- no windows
abbrev pub no_count : ClassCount
no_count = record { windows = 0; inside = 0 }

module _ (plan : Plan) (speeds co2 : List ℕ) where
  -- the window from kept second f, judged "with S the sum of its speeds and n its length", m its CO2
  unfoldable pub window_figure : ℕ → Figure
  window_figure f =
      let l = window_last plan.reference co2 f in
      figure_of plan (sum (from_to f l speeds)) (sum (from_to f l co2)) (length (from_to f l co2))

  -- kept second f has a window of a class, and one of it that is inside
  abbrev pub is_of_class : ℕ → ℕ → Bool
  is_of_class class f = has_window plan.reference co2 f && eqb (window_figure f).class class

  abbrev pub is_inside : ℕ → ℕ → Bool
  is_inside class f = is_of_class class f && (window_figure f).inside

  -- "for each class windows and windows inside"
  abbrev pub class_count : ℕ → ClassCount
  class_count class = record { windows = how_many (is_of_class class) (length co2); inside = how_many (is_inside class) (length co2) }
