-- The sweep: it takes kept seconds and closes windows, move by move.
use Rattle.std.specs.Prelude.{ℕ, zero, suc, ◌+◌, ◌-◌, Bool, false, not, ◌&&◌, List, leb, ltb, eqb, length, get_or, set}
use Rattle.sweep.specs.declared.SweepState.{SweepState}
use Rattle.sweep.specs.declared.Swept.{Swept}
use Rattle.base.specs.Plan.{reference_in_range}
use Rattle.base.specs.Second.{too_many, co2_in_range}
use Rattle.base.specs.Refusal.{accepted, plan_out_of_range, too_many_values, lane_too_short, out_of_range, state_not_reached}
use Rattle.base.specs.Words.{pick, first_where, first_bad}

-- "The sweep begins with nothing taken, nothing dropped, mass 0, no moves."
abbrev pub beginning : SweepState
beginning = record { taken = 0; dropped = 0; mass = 0; moves = 0 }

-- "close the window .. and drop that second"
abbrev pub after_closing : List ℕ → SweepState → SweepState
after_closing co2 s =
    record { taken = s.taken; dropped = s.dropped + 1; mass = s.mass - get_or co2 s.dropped 0; moves = s.moves + 1 }

-- "otherwise take the next kept second"
abbrev pub after_taking : List ℕ → SweepState → SweepState
after_taking co2 s =
    record { taken = s.taken + 1; dropped = s.dropped; mass = s.mass + get_or co2 s.taken 0; moves = s.moves + 1 }

-- the first kept mass that is out of range; the number of masses where none is
abbrev pub first_out_of_range : List ℕ → ℕ
first_out_of_range co2 = first_bad (λ i. co2_in_range (get_or co2 i 0)) (length co2)

-- "a place (.. 3: index, from 0, of the first bad second or value; otherwise 0)"
abbrev pub place_of : List ℕ → ℕ → ℕ
place_of co2 refusal = pick (eqb refusal out_of_range) (first_out_of_range co2) 0

-- "A refusal returns its number and a place .., with all other results zero"
abbrev pub refused_answer : List ℕ → ℕ → Swept
refused_answer co2 refusal =
    record { refusal = refusal; place = place_of co2 refusal; state = beginning; moves = 0; over = false }

module _ (reference : ℕ) (co2 : List ℕ) where
  -- "with none left the sweep is over": no window to close and no kept second to take
  abbrev pub is_over : SweepState → Bool
  is_over s = ltb s.mass reference && leb (length co2) s.taken

  -- "One move: if the mass reaches the reference, close the window, .. and drop that second; otherwise take the next kept second";
  -- a sweep that is over stands still
  unfoldable pub move : SweepState → SweepState
  move s = pick (leb reference s.mass) (after_closing co2 s) (pick (ltb s.taken (length co2)) (after_taking co2 s) s)

  -- "write its end in the place of its first second (.., first kept second numbered 1)"
  unfoldable pub move_ends : SweepState → List ℕ → List ℕ
  move_ends s ends = pick (leb reference s.mass) (set ends s.dropped s.taken) ends

  -- "A run takes a budget of moves, 0 allowed": its state and its ends
  unfoldable pub after_moves : ℕ → SweepState → SweepState
  after_moves zero s = s
  after_moves (suc budget) s = after_moves budget (move s)

  unfoldable pub ends_after : ℕ → SweepState → List ℕ → List ℕ
  ends_after zero s ends = ends
  ends_after (suc budget) s ends = ends_after budget (move s) (move_ends s ends)

  -- "makes exactly that many, or fewer only because the sweep is over": as many as it takes until it is over, or the budget
  unfoldable pub moves_made : ℕ → SweepState → ℕ
  moves_made budget s = first_where (λ k. is_over (after_moves k s)) budget

  -- a state that these kept seconds and this reference reach: the one after its own number of moves from the beginning
  unfoldable pub is_reached : SweepState → Bool
  is_reached s =
      let there = after_moves s.moves beginning in
      eqb there.taken s.taken && eqb there.dropped s.dropped && eqb there.mass s.mass && eqb there.moves s.moves

  -- "Sweep: 5 (its reference), 2, 6, 3, 13", where the lane of ends has this room
  unfoldable pub sweep_refusal : ℕ → SweepState → ℕ
  sweep_refusal room s =
      pick (not (reference_in_range reference)) plan_out_of_range
      (pick (too_many (length co2)) too_many_values
      (pick (ltb room (length co2)) lane_too_short
      (pick (ltb (first_out_of_range co2) (length co2)) out_of_range
      (pick (not (is_reached s)) state_not_reached
      accepted))))

  -- what an accepted call answers: "the state and the moves made"
  abbrev pub run_answer : SweepState → ℕ → Swept
  run_answer s budget =
      let state = after_moves budget s in
      record { refusal = accepted; place = 0; state = state; moves = moves_made budget s; over = is_over state }

  -- the answer of a call
  unfoldable pub sweep_answer : ℕ → SweepState → ℕ → Swept
  sweep_answer room s budget =
      pick (eqb (sweep_refusal room s) accepted) (run_answer s budget) (refused_answer co2 (sweep_refusal room s))

  -- the ends; a refusal "writes into no lane"
  unfoldable pub sweep_ends : List ℕ → SweepState → ℕ → List ℕ
  sweep_ends ends s budget =
      pick (eqb (sweep_refusal (length ends) s) accepted) (ends_after budget s ends) ends
