-- `sweep::all_in_range` meets its contract: it is fine so far exactly where the first mass out of range is not passed. Assumes nothing.
use mathlib.Core.Path.{◌≡◌}
use native.Mathlib.Omega.{arith}
use lib.ListN.{length, get_or}
use Rattle.base.specs.Second.{co2_in_range}
use Rattle.sweep.proofs.Refusals.{fine_so_far}
use Rattle.sweep.proofs.all_in_range.Goals as goal

pub loop-mass-preserved : goal.loop-mass-preserved
loop-mass-preserved c =
    rw c.loop-mass.invariant (fine_so_far (λ k. co2_in_range (get_or c.args.co2.now k 0)) _ c.loop-mass.mass-index (omega arith))

pub returns : goal.returns
returns c =
    let e : c.loop-mass.mass-index ≡ length c.args.co2.now = omega arith in rw e at c.loop-mass.invariant
