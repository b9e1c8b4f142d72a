-- `sweep::Kept::run` meets its contract: the run from the start is the run of what is left of the budget from where the sweep stands, and a sweep
-- that is over stays as it is. Assumes nothing.
use Prim.Native.Nat.{◌-◌}
use mathlib.Core.Path.{◌≡◌}
use lib.ListN.{length}
use Rattle.sweep.specs.Sweep.{after_moves, ends_after}
use Rattle.sweep.specs.Inside.{Ready}
use Rattle.sweep.proofs.Kept.run.Given as goal

abbrev pub invariant-loop-made : goal.invariant-loop-made
invariant-loop-made l =
    let left = l.budget - l._made in
    Ready l.self.reference l.self.co2.now (length l.ends) l.state
    × (after_moves l.self.reference l.self.co2.now l.budget l.initial.state ≡ after_moves l.self.reference l.self.co2.now left l.state)
    × (ends_after l.self.reference l.self.co2.now l.budget l.initial.state l.initial.ends ≡ ends_after l.self.reference l.self.co2.now left l.state l.ends)
