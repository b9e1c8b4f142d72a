-- Demand 3: the window sweep is the shortest-run rule, counts its moves exactly, and can be stopped by its budget and resumed.
use Rattle.std.specs.Prelude.{ℕ, ◌+◌, ◌≤◌, ◌<◌, ◌≡◌, true, List, ◌↔◌, length}
use Rattle.base.specs.Words.{sum}
use Rattle.sweep.specs.declared.SweepState.{SweepState}
use Rattle.sweep.specs.declared.Swept.{Swept}
use Rattle.sweep.specs.Sweep.{beginning, is_over, after_moves, sweep_answer, sweep_ends}
use Rattle.sweep.specs.Window.{from_to, window_last, has_window, windows}
use Rattle.sweep.specs.Outcomes.{Accepted}
use Rattle.sweep.specs.Runs.{IsWindow, Spent, Resumed, Whole, Standing}
use Rattle.sweep.proofs.Windows as runs
use Rattle.sweep.proofs.Finished as finished
use Rattle.sweep.proofs.Reached as reached
use Rattle.sweep.proofs.Theorems as sweep

-- ---- what a window is
module _ (reference : ℕ) (co2 : List ℕ) where
  -- "ends at the first l, from f on, where the CO2 sum f to l reaches the reference": `IsWindow f l` is the shortest run
  pub shortest_run : (f : ℕ) → has_window reference co2 f ≡ true → IsWindow reference co2 f (window_last reference co2 f)
  shortest_run = runs.window reference co2

  -- every kept second whose run can reach the reference has a window
  pub none_left_out : (f l : ℕ) → f ≤ l → l < length co2 → reference ≤ sum (from_to f l co2) → has_window reference co2 f ≡ true
  none_left_out = runs.can-have reference co2

  -- ends never step back
  pub ends_rise : 1 ≤ reference → (f g : ℕ) → f ≤ g → has_window reference co2 g ≡ true → window_last reference co2 f ≤ window_last reference co2 g
  ends_rise = runs.ends-rise reference co2

  -- ---- the moves
  -- stopped by its budget after k moves, it has made k and stands where the rule says
  pub stopped : 1 ≤ reference → (k : ℕ) → k ≤ length co2 + windows reference co2 → ((after_moves reference co2 k beginning).moves ≡ k) × Standing reference co2 (after_moves reference co2 k beginning)
  stopped positive k few = (finished.stopped reference co2 positive k few, finished.stands reference co2 positive k)

  -- from the beginning, the sweep is over after exactly kept plus windows moves, and not before
  pub over_exactly : 1 ≤ reference → (k : ℕ) → (is_over reference co2 (after_moves reference co2 k beginning) ≡ true) ↔ (length co2 + windows reference co2 ≤ k)
  over_exactly positive = finished.over-exactly reference co2 positive

module _ (reference : ℕ) (co2 ends : List ℕ) where
  -- "makes exactly that many, or fewer only because the sweep is over"
  pub budget_used : (state : SweepState) → Accepted reference co2 (length ends) state → (budget : ℕ) → Spent budget (sweep_answer reference co2 (length ends) state budget)
  budget_used = sweep.spent reference co2 ends

  -- the moves of a call are the change of the state's moves
  pub moves_counted :
      (state : SweepState) → Accepted reference co2 (length ends) state → (budget : ℕ) →
      (sweep_answer reference co2 (length ends) state budget).state.moves ≡ state.moves + (sweep_answer reference co2 (length ends) state budget).moves
  moves_counted state accepted budget = rw (sweep.run-answered reference co2 ends state accepted budget) (reached.moves-counted reference co2 budget state)

  -- with a budget of kept plus windows moves from the beginning: it is over, has made kept plus windows moves, and the lane holds the end of every window
  pub run_to_its_end :
      (budget : ℕ) → Accepted reference co2 (length ends) beginning → length co2 + windows reference co2 ≤ budget →
      Whole reference co2 ends (sweep_ends reference co2 ends beginning budget) (sweep_answer reference co2 (length ends) beginning budget)
  run_to_its_end = sweep.whole reference co2 ends

-- ---- resumed
module _ (reference : ℕ) (co2 ends : List ℕ) (state : SweepState) (a b : ℕ) where
  -- a first call with budget a and the lane that it leaves; a second from its state with budget b; and one call with both budgets
  abbrev first : Swept
  first = sweep_answer reference co2 (length ends) state a

  abbrev left : List ℕ
  left = sweep_ends reference co2 ends state a

  abbrev second : Swept
  second = sweep_answer reference co2 (length left) first.state b

  abbrev both : Swept
  both = sweep_answer reference co2 (length ends) state (a + b)

  -- the second call is accepted, and the two come to what the one comes to: state, moves, whether it is over, and lane
  pub resumed : Accepted reference co2 (length ends) state → Resumed first second both (sweep_ends reference co2 left first.state b) (sweep_ends reference co2 ends state (a + b))
  resumed = sweep.resumed reference co2 ends state a b
