-- `reader::made::settles` meets its contract, name by name. Assumes nothing.
use mathlib.Core.Logic.{inl, inr}
use Rattle.reader.proofs.Settled.{unknown_settles, misplaced_settles, plan_settles, values_settle, trip_settles, lane_settles, others_settle}
use Rattle.reader.proofs.made.settles.Goals as goal

pub returns-in-UnknownKind : goal.returns-in-UnknownKind
returns-in-UnknownKind c =
    let a = c.args in
    elim c.in-UnknownKind.is [ inl known ↦ rw known (unknown_settles a.seconds a.planned) | inr known ↦ rw known (misplaced_settles a.seconds a.planned) ]

pub returns-in-PlanOutOfRange : goal.returns-in-PlanOutOfRange
returns-in-PlanOutOfRange c =
    rw c.in-PlanOutOfRange.is (plan_settles c.args.seconds c.args.planned)

pub returns-in-OutOfRange : goal.returns-in-OutOfRange
returns-in-OutOfRange c =
    rw c.in-OutOfRange.is (values_settle c.args.seconds c.args.planned)

pub returns-in-TooMany : goal.returns-in-TooMany
returns-in-TooMany c =
    rw c.in-TooMany.is (trip_settles c.args.seconds c.args.planned)

pub returns-in-LaneTooShort : goal.returns-in-LaneTooShort
returns-in-LaneTooShort c =
    rw c.in-LaneTooShort.is (lane_settles c.args.seconds c.args.planned)

pub returns-in_default : goal.returns-in_default
returns-in_default c =
    let n = c.in_default in
    others_settle c.args.seconds c.args.refusal c.args.planned n.not-UnknownKind n.not-PlanMisplaced n.not-PlanOutOfRange n.not-OutOfRange n.not-TooMany n.not-LaneTooShort
