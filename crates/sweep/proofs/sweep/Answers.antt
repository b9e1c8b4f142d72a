-- `sweep::sweep` meets its contract: a refusal is the definition's, and an accepted call runs; the moves made are the rise of the count. Assumes nothing.
use Prim.Native.Nat.{ℕ, ◌-◌}
use mathlib.Core.Path.{◌≡◌, sym, ◌∙◌, ap}
use mathlib.Core.Bool.{Bool}
use mathlib.Core.List.{List}
use native.Mathlib.Omega.{arith}
use lib.ListN.{length}
use Rattle.base.specs.Refusal.{Fault}
use Rattle.sweep.specs.declared.SweepState.{SweepState}
use Rattle.sweep.specs.Sweep.{is_over, after_moves, moves_made, sweep_refusal, run_answer}
use Rattle.sweep.proofs.Reached.{moves_counted}
use Rattle.sweep.proofs.Refusals.{passed, ready, refused_is, accepted_answer, accepted_ends}
use Rattle.sweep.proofs.sweep.Goals as goal

-- the answer of a run, from the state that it ends in
ran : (reference : ℕ) (co2 : List ℕ) (s : SweepState) (budget : ℕ) {now : SweepState} {over : Bool} → now ≡ after_moves reference co2 budget s → over ≡ is_over reference co2 now → record { refusal = 0; place = 0; state = now; moves = now.moves - s.moves; over = over } ≡ run_answer reference co2 s budget
ran reference co2 s budget {now} {over} e o =
    let made : now.moves - s.moves ≡ moves_made reference co2 budget s = omega (arith, ap (λ (v : SweepState). v.moves) e, moves_counted reference co2 budget s) in
    λ i. record { refusal = 0; place = 0; state = e i; moves = made i; over = (o ∙ ap (λ (v : SweepState). is_over reference co2 v) e) i }

pub returns-in-Err : goal.returns-in-Err
returns-in-Err c =
    let a = c.args in
    let is = refused_is a.reference a.co2.now a.ends.now a.state a.budget _ c.in-Err.ensures in
    (c.from.ensures ∙ is.0, is.1)

pub run-now-requires : goal.run-now-requires
run-now-requires c =
    let a = c.args in
    let accepts : sweep_refusal a.reference a.co2.now (length a.ends.now) a.state ≡ 0 = sym (ap (λ (f : Fault). f.number) c.in_default.ensures) in
    ready _ _ _ a.state (passed _ _ _ a.state accepts)

pub overflow_sub-result : goal.overflow_sub-result
overflow_sub-result c =
    let a = c.args in
    let counted = moves_counted a.reference a.co2.now a.budget a.state in
    omega (arith, ap (λ (v : SweepState). v.moves) c.run-now.ensures.0)

pub returns : goal.returns
returns c =
    let a = c.args in
    let accepts : sweep_refusal a.reference a.co2.now (length a.ends.now) a.state ≡ 0 = sym (ap (λ (f : Fault). f.number) c.in_default.ensures) in
    let call = c.run-now in (
      ran a.reference a.co2.now a.state a.budget call.ensures.0 c.is_over.ensures ∙ sym (accepted_answer _ _ _ a.state a.budget accepts),
      call.ensures.1 ∙ sym (accepted_ends _ _ a.ends.now a.state a.budget accepts),
    )
