-- `reader::made::standing_made` meets its contract, before the plan and after it. Assumes nothing.
use mathlib.Core.Path.{sym, ◌∙◌}
use Rattle.reader.proofs.Testing.{before_plan, after_plan}
use Rattle.reader.proofs.made.standing_made.Goals as goal

pub returns-then-plan_before : goal.returns-then-plan_before
returns-then-plan_before c =
    c.made_after.ensures ∙ sym (after_plan c.args.reader (sym c.plan_before.ensures ∙ c.if-plan_before.true))

pub returns : goal.returns
returns c =
    c.made_before.ensures ∙ sym (before_plan c.args.reader (sym c.plan_before.ensures ∙ c.if-plan_before.false))
