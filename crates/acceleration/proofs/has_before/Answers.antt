-- `acceleration::has_before` meets its contract by the laws of the second before. Assumes nothing.
use mathlib.Core.Path.{sym, ◌∙◌}
use native.Mathlib.Omega.{arith}
use borrow.Author.Tests.{eq-eqb}
use Rattle.acceleration.proofs.Neighbours as law
use Rattle.acceleration.proofs.has_before.Goals as goal

pub returns-then-i-eq0 : goal.returns-then-i-eq0
returns-then-i-eq0 c = eq-eqb _ _ c.if-i-eq0.true ∙ sym (law.has_before_first c.args.states.now c.args.i (omega arith))

pub returns-else-i-eq0 : goal.returns-else-i-eq0
returns-else-i-eq0 c = c.has_values.ensures ∙ sym (law.has_before_lem c.args.states.now c.args.i (omega arith))
