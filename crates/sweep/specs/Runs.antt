-- What windows and runs of the sweep come to, as the paper's rules.
use Rattle.std.specs.Prelude.{ℕ, ◌+◌, ◌≤◌, ◌<◌, ◌≡◌, true, List, length, get_or}
use Rattle.base.specs.Refusal.{accepted}
use Rattle.base.specs.Words.{pick, sum, sum_first}
use Rattle.sweep.specs.declared.SweepState.{SweepState}
use Rattle.sweep.specs.declared.Swept.{Swept}
use Rattle.sweep.specs.Window.{from_to, has_window, window_end, windows}

module _ (reference : ℕ) (co2 : List ℕ) where
  -- the window from kept second f ends at l: the CO2 sum f to l reaches the reference, and no shorter one does
  pub record IsWindow (f l : ℕ) : Type 0 where
    pub from : f ≤ l
    pub within : l < length co2
    pub reaches : reference ≤ sum (from_to f l co2)
    pub shortest : (k : ℕ) → f ≤ k → k < l → sum (from_to f k co2) < reference

  -- a state that stands where the rule says: its mass is that of the seconds taken and not dropped, each second dropped was the
  -- first of a window that is taken whole, and without the last second taken the reference is not reached
  pub record Standing (s : SweepState) : Type 0 where
    pub counted : s.moves ≡ s.taken + s.dropped
    pub order : s.dropped ≤ s.taken
    pub within : s.taken ≤ length co2
    pub weighed : sum_first s.dropped co2 + s.mass ≡ sum_first s.taken co2
    pub closed : (k : ℕ) → k < s.dropped → reference + sum_first k co2 ≤ sum_first s.taken co2
    pub needed : (k : ℕ) → k < s.taken → sum_first k co2 < reference + sum_first s.dropped co2

  -- the place of each second that the run drops holds its window's end, every other place what it held
  pub record Written (s t : SweepState) (before after : List ℕ) : Type 0 where
    pub same_length : length after ≡ length before
    pub ends : (f : ℕ) → s.dropped ≤ f → f < t.dropped → get_or after f 0 ≡ window_end reference co2 f
    pub earlier : (f : ℕ) → f < s.dropped → get_or after f 0 ≡ get_or before f 0
    pub later : (f : ℕ) → t.dropped ≤ f → get_or after f 0 ≡ get_or before f 0

-- "makes exactly that many, or fewer only because the sweep is over"
pub record Spent (budget : ℕ) (answer : Swept) : Type 0 where
  pub no_more : answer.moves ≤ budget
  pub fewer_if_over : answer.moves < budget → answer.over ≡ true

-- two calls, one after the other, are one call with both budgets: the second is accepted, and state, moves, whether it is over and
-- lane are those of the one
pub record Resumed (first second whole : Swept) (lane whole_lane : List ℕ) : Type 0 where
  pub refusal : second.refusal ≡ accepted
  pub state : second.state ≡ whole.state
  pub moves : first.moves + second.moves ≡ whole.moves
  pub over : second.over ≡ whole.over
  pub ends : lane ≡ whole_lane

-- run to its end, from the beginning: it is over, has dropped each window's first second, and the lane holds the ends
pub record Whole (reference : ℕ) (co2 before after : List ℕ) (answer : Swept) : Type 0 where
  pub refusal : answer.refusal ≡ accepted
  pub over : answer.over ≡ true
  pub dropped : answer.state.dropped ≡ windows reference co2
  pub moves : answer.moves ≡ length co2 + windows reference co2
  pub ends : (f : ℕ) → get_or after f 0 ≡ pick (has_window reference co2 f) (window_end reference co2 f) (get_or before f 0)
  pub same_length : length after ≡ length before
