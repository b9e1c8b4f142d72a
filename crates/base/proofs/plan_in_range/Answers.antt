-- `base::plan_in_range` meets its contract: its tests are those of the definition, in the same order. Assumes nothing.
use Rattle.base.specs.Plan.{plan_in_range}
use Rattle.base.proofs.plan_in_range.Goals as goal

pub returns : goal.returns
unfolding plan_in_range
returns c =
    cc
