-- `reader::made::is_no_plan` meets its contract: two plans are equal where each of their values is. Assumes nothing.
use Rattle.std.proofs.Common.{rules, tests}
use Rattle.reader.specs.Inside.{is_no_plan}
use Rattle.reader.proofs.made.is_no_plan.Goals as goal

pub returns : goal.returns
unfolding is_no_plan
returns c =
    grind (rules, tests)
