-- `acceleration::speed_before` meets its contract by the laws of the second before. Assumes nothing.
use mathlib.Core.Path.{sym}
use native.Mathlib.Omega.{arith}
use Rattle.acceleration.proofs.Neighbours as law
use Rattle.acceleration.proofs.speed_before.Goals as goal

pub returns-in-Some : goal.returns-in-Some
returns-in-Some c =
    rw c.in-Some.ensures.1 (sym (law.speed_before_lem c.args.speeds.now c.args.i (omega (arith, c.in-Some.ensures.0))))

pub returns-in-None : goal.returns-in-None
returns-in-None c =
    sym (law.speed_before_first c.args.speeds.now c.args.i (omega (arith, c.in-None.ensures)))
