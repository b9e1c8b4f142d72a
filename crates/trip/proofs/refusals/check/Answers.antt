-- `refusals::check` meets its contract: its tests are those of the definition, and lanes that agree have one length. Assumes nothing.
use mathlib.Core.Path.{sym, ◌∙◌}
use Rattle.second.proofs.Lanes.{agree}
use Rattle.trip.proofs.refusals.check.Goals as goal

pub first_bad-requires : goal.first_bad-requires
first_bad-requires c = agree _ (sym c.agree.ensures ∙ c.if-not-agree.false)
