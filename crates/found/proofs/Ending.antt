-- The sweep with twice as many moves as kept seconds is accepted and comes to its end. Assumes nothing.
use Prim.Native.Nat.{ℕ, ◌+◌, ◌-◌, ◌*◌, ◌≤◌}
use mathlib.Core.Path.{◌≡◌, refl, ◌∙◌, ap}
use mathlib.Core.Bool.{true, false, and-eq-true_iff}
use mathlib.Core.List.{List}
use native.Mathlib.Nat.{le_refl}
use native.Mathlib.Omega.{arith}
use borrow.Author.Tests.{le-leb, le-ltb, leb-true}
use lib.Dec.{leb, ltb}
use lib.ListN.{length, get_or}
use Rattle.base.specs.Limits.{trip_limit, reference_most}
use Rattle.base.specs.Refusal.{accepted}
use Rattle.base.specs.Second.{co2_in_range}
use Rattle.base.proofs.Search.{comes_to}
use Rattle.sweep.specs.declared.SweepState.{SweepState}
use Rattle.sweep.specs.declared.Swept.{Swept}
use Rattle.sweep.specs.Sweep.{beginning, is_over, after_moves, ends_after, is_reached, first_out_of_range, sweep_refusal, sweep_answer, sweep_ends}
use Rattle.sweep.specs.Window.{windows}
use Rattle.sweep.proofs.Moves.{begins, over-after, over_ends}
use Rattle.sweep.proofs.Reached.{stands_reached}
use Rattle.sweep.proofs.Refusals.{accepted_answer, accepted_ends}
use Rattle.sweep.proofs.Windows.{windows_most}
use Rattle.sweep.proofs.Finished.{Ended, ended, stands, over_exactly, state_composes, ends_compose}
use Rattle.found.specs.Found.{moves_to_end}
use Rattle.found.specs.Inside.{Sweepable}

module _ (reference : ℕ) (co2 : List ℕ) (room : ℕ) (ok : Sweepable reference co2 room) where
  pub positive : 1 ≤ reference
  positive = leb-true 1 reference ((and-eq-true_iff (leb 1 reference) (leb reference reference_most)).0 ok.reference_is_in_range).0

  pub none_out : first_out_of_range co2 ≡ length co2
  none_out =
      comes_to (λ i. co2_in_range (get_or co2 i 0)) (length co2) (length co2) (le_refl _) (le_refl _) (λ k h. le-leb _ _ (ok.in_range k h))

  -- the call is accepted
  accepts : sweep_refusal reference co2 room beginning ≡ accepted
  unfolding sweep_refusal
  accepts =
      let last : ltb (first_out_of_range co2) (length co2) ≡ false = rw none_out (le-ltb (length co2) (length co2) (le_refl _)) in
      let first : is_reached reference co2 beginning ≡ true = stands_reached reference co2 positive beginning (begins reference co2) in
      rw (ok.reference_is_in_range, le-ltb trip_limit (length co2) ok.few, le-ltb room (length co2) ok.places, last, first) refl

  abbrev pub end : ℕ
  end = moves_to_end reference co2

  pub over : is_over reference co2 (after_moves reference co2 end beginning) ≡ true
  over = (over_exactly reference co2 positive end).1 (le_refl _)

  pub at_end : Ended reference co2 (after_moves reference co2 end beginning)
  at_end = ended reference co2 positive (stands reference co2 positive end) over

  enough : 2 * length co2 ≡ end + (length co2 - windows reference co2)
  enough = omega (arith, windows_most reference co2)

  -- where the sweep stands, and what it has written
  module _ {swept : Swept} (is : swept ≡ sweep_answer reference co2 room beginning (2 * length co2)) where
    there : swept.state ≡ after_moves reference co2 end beginning
    there =
        ap (λ (s : Swept). s.state) (is ∙ accepted_answer reference co2 room beginning (2 * length co2) accepts)
        ∙ rw (enough, state_composes reference co2 end (length co2 - windows reference co2) beginning) (over-after reference co2 (after_moves reference co2 end beginning) over (length co2 - windows reference co2))

    pub dropped_all : swept.state.dropped ≡ windows reference co2
    dropped_all = ap (λ (s : SweepState). s.dropped) there ∙ at_end.dropped

    pub moves_all : swept.state.moves ≡ moves_to_end reference co2
    moves_all = ap (λ (s : SweepState). s.moves) there ∙ at_end.moves

pub ends_all : (reference : ℕ) (co2 ends : List ℕ) (ok : Sweepable reference co2 (length ends)) → sweep_ends reference co2 ends beginning (2 * length co2) ≡ ends_after reference co2 (moves_to_end reference co2) beginning ends
ends_all reference co2 ends ok =
    accepted_ends reference co2 ends beginning (2 * length co2) (accepts reference co2 (length ends) ok)
    ∙ rw (enough reference co2 (length ends) ok, ends_compose reference co2 (end reference co2 (length ends) ok) (length co2 - windows reference co2) beginning ends) (over_ends reference co2 (after_moves reference co2 (end reference co2 (length ends) ok) beginning) (over reference co2 (length ends) ok) (length co2 - windows reference co2) _)
