-- `percentile::copy` meets its contract: after i turns the lane begins with the first i values. Assumes nothing.
use mathlib.Core.Path.{refl, ◌∙◌}
use lib.ListN.{length-set}
use native.Mathlib.Omega.{arith}
use Rattle.base.proofs.Store.{copy_next, copied}
use Rattle.percentile.proofs.copy.Goals as goal

pub loop-i-init : goal.loop-i-init
loop-i-init c =
    (omega arith, refl, refl)

pub loop-i-preserved : goal.loop-i-preserved
loop-i-preserved c =
    let a = c.args in
    let l = c.loop-i in
    (omega arith, rw l.invariant.1 (copy_next a.values.now a.lane.now l.i (omega arith) (omega arith)), length-set l.lane l.i _ ∙ l.invariant.2)

pub returns : goal.returns
returns c =
    let a = c.args in
    let l = c.loop-i in
    l.invariant.1 ∙ copied a.values.now a.lane.now l.i (omega arith)
