-- `bins::measure` meets its contract: tallies and dynamics put together are the bins. Assumes nothing.
use mathlib.Core.Path.{refl}
use Rattle.bins.proofs.Joining.{joins, totals}
use Rattle.bins.proofs.measure.Goals as goal

pub total-requires : goal.total-requires
total-requires c = c.tally_bins-tallies.ensures.room

pub returns : goal.returns
returns c =
    let figures = c.dynamics-figures.ensures in
    let tallies = c.tally_bins-tallies.ensures.value in
    (rw (c.join.ensures, figures.0, c.total.ensures, tallies, joins, totals) refl, figures.1)
