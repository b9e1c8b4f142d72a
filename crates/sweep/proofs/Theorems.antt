-- What the definitions of the sweep amount to for its callers: refused exactly when, resumed, run to its end. The laws of windows are in
-- `Windows`, those of the machine in `Finished`. Assumes nothing.
use Prim.Native.Nat.{ℕ, ◌+◌, ◌≤◌}
use mathlib.Core.Path.{◌≡◌, refl, sym, ◌∙◌, ap}
use mathlib.Core.Bool.{true}
use mathlib.Core.List.{List}
use mathlib.Core.Logic.{◌↔◌}
use native.Mathlib.Omega.{arith}
use lib.Dec.{eqb}
use lib.ListN.{length, get_or}
use Rattle.base.specs.Refusal.{accepted}
use Rattle.base.specs.Words.{pick}
use Rattle.sweep.specs.declared.SweepState.{SweepState}
use Rattle.sweep.specs.declared.Swept.{Swept}
use Rattle.sweep.specs.Sweep.{beginning, is_over, after_moves, moves_made, ends_after, place_of, sweep_refusal, run_answer, refused_answer, sweep_answer, sweep_ends}
use Rattle.sweep.specs.Window.{windows}
use Rattle.sweep.specs.Outcomes.{Accepted, Outcome}
use Rattle.sweep.specs.Runs.{Written, Spent, Resumed, Whole}
use Rattle.sweep.proofs.Moves.{begins, stands_after}
use Rattle.sweep.proofs.Reached.{moves_counted, made_most, fewer_over, stands_reached}
use Rattle.sweep.proofs.Refusals.{outcome, gives, passed, ready, refused_answer_lem, accepted_answer, refused_ends, accepted_ends}
use Rattle.sweep.proofs.Finished.{ended, over_exactly, written, finished_ends, state_composes, ends_compose, moves_compose}

module _ (reference : ℕ) (co2 : List ℕ) (room : ℕ) (s : SweepState) where
  -- ---- refused exactly when
  -- each number is given exactly when its condition holds and none before it in the order does (`Outcome`)
  pub refused_exactly : (refusal : ℕ) → (sweep_refusal reference co2 room s ≡ refusal) ↔ Outcome reference co2 room s refusal
  refused_exactly refusal = (λ e. rw e at (outcome reference co2 room s), gives reference co2 room s)

  -- the answer has that number, and its place
  pub answer_refusal : (budget : ℕ) → ((sweep_answer reference co2 room s budget).refusal ≡ sweep_refusal reference co2 room s) × ((sweep_answer reference co2 room s budget).place ≡ place_of co2 (sweep_refusal reference co2 room s))
  unfolding sweep_answer
  answer_refusal budget = go (sweep_refusal reference co2 room s) (outcome reference co2 room s)
    where
      go : (r : ℕ) → Outcome reference co2 room s r → ((pick (eqb r accepted) (run_answer reference co2 s budget) (refused_answer co2 r)).refusal ≡ r) × ((pick (eqb r accepted) (run_answer reference co2 s budget) (refused_answer co2 r)).place ≡ place_of co2 r)
      go _ (Outcome.bad-reference p) = (refl, refl)
      go _ (Outcome.if_too_many p q) = (refl, refl)
      go _ (Outcome.if_too_short p q r) = (refl, refl)
      go _ (Outcome.bad-mass p q r t) = (refl, refl)
      go _ (Outcome.never-reached p q r t u) = (refl, refl)
      go _ (Outcome.fine ok) = (refl, refl)

  -- a refusal has all other results zero
  pub refused_zeros : (budget : ℕ) → ((sweep_answer reference co2 room s budget).refusal ≡ accepted → ⊥) → sweep_answer reference co2 room s budget ≡ refused_answer co2 (sweep_answer reference co2 room s budget).refusal
  refused_zeros budget bad =
      let same = (answer_refusal budget).0 in
      refused_answer_lem reference co2 room s budget (λ z. bad (same ∙ z)) ∙ ap (refused_answer co2) (sym same)

  -- the answer gives a number exactly when what stands beside it holds
  pub answered_exactly : (budget refusal : ℕ) → ((sweep_answer reference co2 room s budget).refusal ≡ refusal) ↔ Outcome reference co2 room s refusal
  answered_exactly budget refusal =
      (λ e. (refused_exactly refusal).0 (sym (answer_refusal budget).0 ∙ e), λ o. (answer_refusal budget).0 ∙ (refused_exactly refusal).1 o)

  -- ---- resumed
  -- the state that an accepted call answers is accepted again
  pub accepted_again : (budget : ℕ) → Accepted reference co2 room s → Accepted reference co2 room (after_moves reference co2 budget s)
  accepted_again budget ok =
      let go = ready reference co2 room s ok in
      record {
        reference_is_in_range = ok.reference_is_in_range;
        few = ok.few;
        places = ok.places;
        in_range = ok.in_range;
        reached = stands_reached reference co2 go.positive (after_moves reference co2 budget s) (stands_after reference co2 go.positive budget s go.stands);
      }

-- what an accepted call answers, and the lane that it leaves
module _ (reference : ℕ) (co2 ends : List ℕ) (s : SweepState) (ok : Accepted reference co2 (length ends) s) where
  no_refusal : sweep_refusal reference co2 (length ends) s ≡ accepted
  no_refusal = (refused_exactly reference co2 (length ends) s accepted).1 (Outcome.fine ok)

  pub run_answered : (budget : ℕ) → sweep_answer reference co2 (length ends) s budget ≡ run_answer reference co2 s budget
  run_answered budget = accepted_answer reference co2 (length ends) s budget no_refusal

  pub run_written : (budget : ℕ) → sweep_ends reference co2 ends s budget ≡ ends_after reference co2 budget s ends
  run_written budget = accepted_ends reference co2 ends s budget no_refusal

  -- "a call writes only the places of windows it closes"
  pub only_closed : (budget : ℕ) → Written reference co2 s (after_moves reference co2 budget s) ends (sweep_ends reference co2 ends s budget)
  only_closed budget =
      let go = ready reference co2 (length ends) s ok in
      rw (run_written budget) (written reference co2 go.positive budget s ends go.stands ok.places)

-- the same by the answer's number
module _ (reference : ℕ) (co2 ends : List ℕ) (s : SweepState) (budget : ℕ) where
  -- a refusal "writes into no lane"
  pub refused_writes_nothing : ((sweep_answer reference co2 (length ends) s budget).refusal ≡ accepted → ⊥) → sweep_ends reference co2 ends s budget ≡ ends
  refused_writes_nothing bad =
      refused_ends reference co2 ends s budget (λ z. bad ((answer_refusal reference co2 (length ends) s budget).0 ∙ z))

  pub is_accepted_lem : (sweep_answer reference co2 (length ends) s budget).refusal ≡ accepted → Accepted reference co2 (length ends) s
  is_accepted_lem z = passed reference co2 (length ends) s (sym (answer_refusal reference co2 (length ends) s budget).0 ∙ z)

  pub accepted_writes : (sweep_answer reference co2 (length ends) s budget).refusal ≡ accepted → Written reference co2 s (after_moves reference co2 budget s) ends (sweep_ends reference co2 ends s budget)
  accepted_writes z = only_closed reference co2 ends s (is_accepted_lem z) budget

module _ (reference : ℕ) (co2 : List ℕ) where
  pub spent : (ends : List ℕ) (s : SweepState) → Accepted reference co2 (length ends) s → (budget : ℕ) → Spent budget (sweep_answer reference co2 (length ends) s budget)
  spent ends s ok budget =
      rw (run_answered reference co2 ends s ok budget) (record { no_more = made_most reference co2 budget s; fewer_if_over = fewer_over reference co2 budget s })

module _ (reference : ℕ) (co2 ends : List ℕ) (s : SweepState) (a b : ℕ) where
  abbrev pub first_answer : Swept
  first_answer = sweep_answer reference co2 (length ends) s a

  abbrev pub first_lane : List ℕ
  first_lane = sweep_ends reference co2 ends s a

  pub resumed : Accepted reference co2 (length ends) s → Resumed first_answer (sweep_answer reference co2 (length first_lane) first_answer.state b) (sweep_answer reference co2 (length ends) s (a + b)) (sweep_ends reference co2 first_lane first_answer.state b) (sweep_ends reference co2 ends s (a + b))
  resumed ok =
      let next = accepted_again reference co2 (length ends) s a ok in
      let first : sweep_answer reference co2 (length ends) s a ≡ run_answer reference co2 s a = run_answered reference co2 ends s ok a in
      let whole : sweep_answer reference co2 (length ends) s (a + b) ≡ run_answer reference co2 s (a + b) = run_answered reference co2 ends s ok (a + b) in
      let same : length (sweep_ends reference co2 ends s a) ≡ length ends = (only_closed reference co2 ends s ok a).same_length in
      let next_there : Accepted reference co2 (length (sweep_ends reference co2 ends s a)) (after_moves reference co2 a s) = rw same next in
      let second : sweep_answer reference co2 (length (sweep_ends reference co2 ends s a)) (after_moves reference co2 a s) b ≡ run_answer reference co2 (after_moves reference co2 a s) b = run_answered reference co2 (sweep_ends reference co2 ends s a) (after_moves reference co2 a s) next_there b in
      let lane_second : sweep_ends reference co2 (sweep_ends reference co2 ends s a) (after_moves reference co2 a s) b ≡ ends_after reference co2 b (after_moves reference co2 a s) (sweep_ends reference co2 ends s a) = run_written reference co2 (sweep_ends reference co2 ends s a) (after_moves reference co2 a s) next_there b in
      record {
        refusal = rw (first, second) refl;
        state = rw (first, second, whole) (sym (state_composes reference co2 a b s));
        moves = rw (first, second, whole) (sym (moves_compose reference co2 a b s));
        over = rw (first, second, whole) (ap (λ (v : SweepState). is_over reference co2 v) (sym (state_composes reference co2 a b s)));
        ends = rw (first, lane_second, run_written reference co2 ends s ok a, run_written reference co2 ends s ok (a + b)) (sym (ends_compose reference co2 a b s ends));
      }

module _ (reference : ℕ) (co2 ends : List ℕ) (budget : ℕ) where
  pub whole : Accepted reference co2 (length ends) beginning → length co2 + windows reference co2 ≤ budget → Whole reference co2 ends (sweep_ends reference co2 ends beginning budget) (sweep_answer reference co2 (length ends) beginning budget)
  whole ok enough =
      let positive : 1 ≤ reference = (ready reference co2 (length ends) beginning ok).positive in
      let answer = run_answered reference co2 ends beginning ok budget in
      let over : is_over reference co2 (after_moves reference co2 budget beginning) ≡ true = (over_exactly reference co2 positive budget).1 enough in
      let end = ended reference co2 positive (stands_after reference co2 positive budget beginning (begins reference co2)) over in
      record {
        refusal = ap (λ (r : Swept). r.refusal) answer;
        over = ap (λ (r : Swept). r.over) answer ∙ over;
        dropped = ap (λ (r : Swept). r.state.dropped) answer ∙ end.dropped;
        moves = ap (λ (r : Swept). r.moves) answer ∙ (let m : moves_made reference co2 budget beginning ≡ length co2 + windows reference co2 = omega (arith, end.moves, moves_counted reference co2 budget beginning) in m);
        ends = λ f. ap (λ (l : List ℕ). get_or l f 0) (run_written reference co2 ends beginning ok budget) ∙ finished_ends reference co2 positive budget ends ok.places over f;
        same_length = (only_closed reference co2 ends beginning ok budget).same_length;
      }
