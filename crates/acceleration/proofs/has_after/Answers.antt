-- `acceleration::has_after` meets its contract by the laws of the second after. Assumes nothing.
use mathlib.Core.Path.{sym, ◌∙◌, ap}
use borrow.Author.Tests.{ltb-false}
use Rattle.second.specs.Row.{has_values}
use Rattle.acceleration.proofs.Neighbours as law
use Rattle.acceleration.proofs.has_after.Goals as goal

pub returns-in-Some : goal.returns-in-Some
returns-in-Some c =
    let found = c.in-Some.ensures.lookup in
    c.has_values.ensures ∙ ap has_values (found.3.1 0) ∙ sym (law.has_after_lem c.args.states.now c.args.i found.3.0)

pub returns-in-None : goal.returns-in-None
returns-in-None c =
    let none = c.in-None.ensures.lookup in
    sym (law.has_after_last c.args.states.now c.args.i (ltb-false _ _ (sym none.0)))
