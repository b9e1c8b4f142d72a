-- `trip::evaluate` meets its contract: a refusal touches nothing, and an accepted trip gives each part what it asks; the parts'
-- promises are the definition. Assumes nothing.
use mathlib.Core.Path.{refl, sym, ◌∙◌}
use Rattle.trip.specs.Lent.{lent_written}
use Rattle.trip.proofs.Passed.{findable, bin_lanes, climb_lanes}
use Rattle.trip.proofs.Answers.{refused_call, refused_lanes, accepted_call, evaluated_call, written_lanes}
use Rattle.trip.proofs.Written.{same_lent}
use Rattle.trip.proofs.evaluate.Goals as goal

pub returns-in-Err-clause-answer : goal.returns-in-Err-clause-answer
returns-in-Err-clause-answer c = c.refused_for.ensures ∙ sym (refused_call _ _ _ _ c.rooms.ensures _ c.in-Err.ensures)

pub returns-in-Err-clause-left : goal.returns-in-Err-clause-left
returns-in-Err-clause-left c = sym (refused_lanes _ _ _ _ c.rooms.ensures _ c.in-Err.ensures)

pub find-found-requires : goal.find-found-requires
find-found-requires c = findable (accepted_call _ _ _ _ c.rooms.ensures c.in_default.ensures)

pub measure-bins-requires : goal.measure-bins-requires
measure-bins-requires c = bin_lanes (accepted_call _ _ _ _ c.rooms.ensures c.in_default.ensures) _ refl

pub conclude-requires : goal.conclude-requires
conclude-requires c = climb_lanes (accepted_call _ _ _ _ c.rooms.ensures c.in_default.ensures)

pub returns-clause-answer : goal.returns-clause-answer
returns-clause-answer c =
    rw (c.conclude.ensures, c.find-found.ensures.0, c.measure-bins.ensures.0) (sym (evaluated_call _ _ _ _ c.rooms.ensures c.in_default.ensures))

pub returns-clause-left : goal.returns-clause-left
unfolding lent_written
returns-clause-left c =
    let f = c.find-found.ensures in
    same_lent f.1 f.2 f.3 c.measure-bins.ensures.1 ∙ sym (written_lanes _ _ _ _ c.rooms.ensures c.in_default.ensures)
